use Rattle.std.proofs.Common.{◌≡◌, take}
use Rattle.hashes.specs.Family.{absorbed}
use Rattle.hashes.specs.Toeplitz.{toeplitz_family}
use Rattle.hashes.proofs.toeplitz.ToeplitzFamily.absorb.Given as goal

-- the bytes before the index have been taken in
abbrev pub invariant-loop-b : goal.invariant-loop-b
invariant-loop-b l = l.self ≡ absorbed toeplitz_family l.fn.self (take l.b-index l.part)
