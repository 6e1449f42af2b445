use Rattle.std.proofs.Common.{◌≡◌, length}
use Rattle.hashes.specs.Evaluation.{evaluation_family}
use Rattle.hashes.specs.Family.{absorbed}
use Rattle.hashes.proofs.evaluation.Evaluation.take_part.Given as goal

-- what is left of the part leads to the state after all of it
abbrev pub invariant-loop-byte : goal.invariant-loop-byte
invariant-loop-byte l =
    absorbed evaluation_family l.self l.rest ≡ absorbed evaluation_family l.initial.self l.part

abbrev pub decreases-loop-byte : goal.decreases-loop-byte
decreases-loop-byte l = length l.rest
