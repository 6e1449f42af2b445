use Rattle.std.proofs.Common.{◌≡◌, ◌%◌, ◌^◌, take}
use Rattle.std.specs.Int.Digits.{number_from_digits_after}
use Rattle.hashes.proofs.evaluation.with_bytes.Given as goal

-- the bytes so far have been put in
abbrev pub invariant-loop-byte : goal.invariant-loop-byte
invariant-loop-byte l = l.word ≡ number_from_digits_after 256 l.fn.word (take l.byte-index l.bytes) % 2 ^ 64
