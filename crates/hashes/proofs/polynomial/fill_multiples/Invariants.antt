use Rattle.std.proofs.Common.{◌≡◌, ◌+◌, ◌^◌, length}
use Rattle.hashes.proofs.Sums.{Filled}
use Rattle.hashes.specs.Polynomial.{times_mod}
use Rattle.hashes.proofs.polynomial.fill_multiples.Given as goal

-- the words below 2^k are filled
abbrev pub invariant-loop-k : goal.invariant-loop-k
invariant-loop-k g l = record {
  len : length l.words ≡ g.row.N;
  filled : Filled (λ t. times_mod (2 ^ 64 + l.w) t l.a) (2 ^ l.k) l.words;
  power : l.power ≡ times_mod (2 ^ 64 + l.w) (2 ^ l.k) l.a;
}
