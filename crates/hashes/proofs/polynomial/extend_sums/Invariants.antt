use Rattle.std.proofs.Common.{◌≡◌, ℕ, ◌<◌, ◌≤◌, get_or, bit_xor}
use Rattle.hashes.proofs.polynomial.extend_sums.Given as goal

-- the copies so far have b added
abbrev pub invariant-loop-word : goal.invariant-loop-word
invariant-loop-word l = record {
  done : (j : ℕ) → j < l.word-index → get_or l.word-items j 0 ≡ bit_xor (get_or l.initial.word-items j 0) l.b;
  rest : (j : ℕ) → l.word-index ≤ j → get_or l.word-items j 0 ≡ get_or l.initial.word-items j 0;
}
