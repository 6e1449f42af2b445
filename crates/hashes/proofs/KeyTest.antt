-- The key test on words: x^64 + p is irreducible where it has no linear factor, and x is back after 64 squarings and was not after 32.
use Rattle.std.proofs.Common.{◌≡◌, ℕ, ◌+◌, ◌^◌, ◌<◌, sym, ap, ◌∙◌}
use Rattle.hashes.specs.Frobenius.{frobenius, frobenius_add}
use Rattle.hashes.specs.Polynomial.{degree}
use Rattle.hashes.specs.Rabin.{back_irreducible, irreducible_back}
use Rattle.hashes.specs.Trial.{trial_decides}
use Rattle.hashes.specs.Words.{word_degree, word_pos}
use Rattle.hashes.proofs.Linear.{linear_reducible}
use Rattle.hashes.proofs.FourthPowers.{six_squarings}

-- ---- x after 32 and after 64 squarings, from p, which is x after six

pub after_half : (p half : ℕ) → p < 2 ^ 64 → half ≡ frobenius (2 ^ 64 + p) 26 p → half ≡ frobenius (2 ^ 64 + p) 32 2
after_half p half h e = e ∙ ap (frobenius (2 ^ 64 + p) 26) (sym (six_squarings p h)) ∙ sym (frobenius_add (2 ^ 64 + p) (word_pos 64 p) 26 6 2)

pub after_whole : (p half whole : ℕ) → p < 2 ^ 64 → half ≡ frobenius (2 ^ 64 + p) 26 p → whole ≡ frobenius (2 ^ 64 + p) 32 half → whole ≡ frobenius (2 ^ 64 + p) 64 2
after_whole p half whole h e f = f ∙ ap (frobenius (2 ^ 64 + p) 32) (after_half p half h e) ∙ sym (frobenius_add (2 ^ 64 + p) (word_pos 64 p) 32 32 2)

-- ---- the answer

pub key_degree : (p : ℕ) → p < 2 ^ 64 → degree (2 ^ 64 + p) ≡ 64
key_degree = word_degree 64

-- what makes the test exact
pub ruleset exact_test = (key_degree, linear_reducible, back_irreducible, irreducible_back, trial_decides)
