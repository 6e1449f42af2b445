use Rattle.std.proofs.Common.{◌≡◌, ℕ, ◌+◌, ◌*◌, ◌^◌}
use Rattle.hashes.specs.Additive.{HalfByteRows}
use Rattle.hashes.specs.Frobenius.{frobenius}
use Rattle.hashes.proofs.fourth_powers.repeated_fourth_power.Given as goal

abbrev pub invariant-loop : goal.invariant-loop
invariant-loop l = (p : ℕ) → HalfByteRows (frobenius (2 ^ 64 + p) 2) l.rows → l.power ≡ frobenius (2 ^ 64 + p) (l.counter * 2) l.a
