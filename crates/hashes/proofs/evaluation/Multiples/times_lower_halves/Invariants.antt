use Rattle.std.proofs.Common.{◌≡◌, ◌*◌, ◌/◌, ◌^◌}
use Rattle.hashes.specs.Evaluation.{lower_halves, modulus}
use Rattle.hashes.specs.Polynomial.{times_mod}
use Rattle.hashes.proofs.evaluation.Multiples.times_lower_halves.Given as goal

-- the bytes below place j
abbrev pub invariant-loop-row : goal.invariant-loop-row
invariant-loop-row l = record {
  added : l.sum ≡ times_mod modulus (lower_halves l.row-index l.v) l.self.point;
  left : l.rest ≡ l.v / 2 ^ (8 * l.row-index);
}
