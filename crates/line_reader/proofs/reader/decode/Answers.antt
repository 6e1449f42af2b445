-- Each character adds its byte.
use Rattle.std.proofs.Common.{Some, Ok, rules, arith}
use Rattle.line_reader.specs.Reading.{decoded}
use Rattle.line_reader.proofs.Names.{decoded_by, name_decoded}
use Rattle.line_reader.proofs.Decodings.{holds_more}
use Rattle.line_reader.proofs.reader.decode.Goals as goal

pub loop-n-preserved : goal.loop-n-preserved
loop-n-preserved c =
    holds_more c.loop-n.invariant c.in-Ok-Some.byte (decoded c.character.new.self) (omega arith)
    (decoded_by c.loop-n.cursor (c.character.new.self, Ok (Some c.in-Ok-Some.byte)) (search rules))

pub returns-in_default-clause-exact : goal.returns-in_default-clause-exact
returns-in_default-clause-exact c = name_decoded

pub returns-in_default-2-clause-exact : goal.returns-in_default-2-clause-exact
returns-in_default-2-clause-exact c = name_decoded

pub returns-clause-exact : goal.returns-clause-exact
returns-clause-exact c = name_decoded
