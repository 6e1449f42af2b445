use Rattle.std.proofs.Common.{◌≡◌}
use Rattle.hashes.specs.Toeplitz.{toeplitz_next}
use Rattle.hashes.specs.ToeplitzSteps.{after_bits}
use Rattle.hashes.proofs.toeplitz.Toeplitz.take_byte.Given as goal

-- i bits of the byte are left
abbrev pub invariant-loop-i : goal.invariant-loop-i
invariant-loop-i l = after_bits 64 l.self l.i l.byte ≡ toeplitz_next l.fn.self l.byte
