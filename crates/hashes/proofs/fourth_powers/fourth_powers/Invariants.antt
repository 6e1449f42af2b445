use Rattle.std.proofs.Common.{◌≡◌, ◌+◌, ◌*◌, ◌^◌, length}
use Rattle.hashes.proofs.FourthPowers.{Rows}
use Rattle.hashes.specs.Frobenius.{frobenius}
use Rattle.hashes.proofs.fourth_powers.fourth_powers.Given as goal

-- the rows before place `row-index` are filled
abbrev pub invariant-loop-row : goal.invariant-loop-row
invariant-loop-row l = record {
  len : length l.row-items ≡ 16;
  rows : Rows (2 ^ 64 + l.carries.p) l.row-index l.row-items;
  power : l.power ≡ frobenius (2 ^ 64 + l.carries.p) 2 (2 ^ (4 * l.row-index));
}
