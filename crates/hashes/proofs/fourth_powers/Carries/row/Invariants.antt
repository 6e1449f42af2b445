use Rattle.std.proofs.Common.{◌≡◌, ◌+◌, ◌^◌}
use Rattle.hashes.proofs.Sums.{Filled}
use Rattle.hashes.specs.Frobenius.{frobenius}
use Rattle.hashes.specs.Polynomial.{times_mod}
use Rattle.hashes.proofs.fourth_powers.Carries.row.Given as goal

-- the words below 2^k are filled
abbrev pub invariant-loop-k : goal.invariant-loop-k
invariant-loop-k l = record {
  filled : Filled (λ d. times_mod (2 ^ 64 + l.self.p) (frobenius (2 ^ 64 + l.self.p) 2 d) l.a) (2 ^ l.k) l.row;
  power : l.power ≡ times_mod (2 ^ 64 + l.self.p) (frobenius (2 ^ 64 + l.self.p) 2 (2 ^ l.k)) l.a;
}
