-- So far, the bytes written are the first of the name, and the others are as they were.
use Rattle.line_reader.specs.Reading.{decoded}
use Rattle.line_reader.proofs.Decodings.{Decoded}
use Rattle.line_reader.proofs.reader.decode.Given as goal

abbrev pub invariant-loop-n : goal.invariant-loop-n
invariant-loop-n l = Decoded l.initial.bytes (decoded l.name) l.n l.bytes (decoded l.cursor)
