use Rattle.std.proofs.Common.{◌≡◌, ◌++◌, take}
use Rattle.hashes.proofs.evaluation.Pending.extend.Given as goal

-- the bytes so far stand behind
abbrev pub invariant-loop-byte : goal.invariant-loop-byte
invariant-loop-byte l = l.self ≡ l.initial.self ++ take l.byte-index l.part
