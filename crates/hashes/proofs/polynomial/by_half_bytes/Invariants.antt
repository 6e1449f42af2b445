use Rattle.std.proofs.Common.{◌≡◌, ℕ, ◌*◌, ◌/◌, ◌%◌, ◌^◌}
use Rattle.hashes.specs.Additive.{Additive, HalfByteRows}
use Rattle.hashes.proofs.polynomial.by_half_bytes.Given as goal

-- the half bytes below place j
abbrev pub invariant-loop-row : goal.invariant-loop-row
invariant-loop-row l = record {
  added : (f : ℕ → ℕ) → Additive f → HalfByteRows f l.rows → l.sum ≡ f (l.v % 2 ^ (4 * l.row-index));
  left : l.rest ≡ l.v / 2 ^ (4 * l.row-index);
}
