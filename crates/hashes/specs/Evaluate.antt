-- Horner's rule at a point modulo p gives the sum of powers.
use Rattle.std.specs.Prelude.{◌≡◌, ℕ, ◌^◌, ◌<◌, List, [], ◌∷◌, length, bit_xor}
use Rattle.std.proofs.Math.Path.{sym, ap}
use Rattle.std.proofs.Common.{◌∙◌}
use Rattle.std.specs.Int.Bits.{xor_assoc, xor_zero_r}
use Rattle.std.proofs.lemmas.Nat.{xor_lt}
use Rattle.hashes.specs.Evaluation.{evaluation}
use Rattle.hashes.specs.Field.{power, powers_sum}
use Rattle.hashes.specs.Polynomial.{degree, times_mod}
use Rattle.hashes.specs.FieldLemmas.{mod_assoc, mod_comm, mod_lt, mod_one_r, mod_xor_l}
use Rattle.hashes.specs.Remainder.{remainder_small}
use Rattle.std.specs.List.{AllByRecursion}

-- each next word is added to the value so far times a
unfoldable pub evaluate : ℕ → ℕ → ℕ → List ℕ → ℕ
evaluate p a r [] = r
evaluate p a r (w ∷ ws) = evaluate p a (bit_xor (times_mod p r a) w) ws

-- every word is below x^n, the leading term of p
abbrev pub Fit : ℕ → List ℕ → Type 0
Fit p ws = AllByRecursion (λ w. w < 2 ^ degree p) ws

module _ (p : ℕ) (pos : 0 < p) where
  pub evaluate_sum : (a r : ℕ) (ws : List ℕ) → r < 2 ^ degree p → Fit p ws
      → evaluate p a r ws ≡ bit_xor (times_mod p r (power p (length ws) a)) (powers_sum p a ws)
  unfolding evaluate power powers_sum
  evaluate_sum a r [] h fit = sym (xor_zero_r (times_mod p r 1) ∙ mod_one_r p pos r ∙ remainder_small p pos r h)
  evaluate_sum a r (w ∷ ws) h fit =
      evaluate_sum a (bit_xor (times_mod p r a) w) ws (xor_lt (degree p) (times_mod p r a) w (mod_lt p pos r a) fit.0) fit.1
      ∙ ap (λ (x : ℕ). bit_xor x (powers_sum p a ws)) (mod_xor_l p pos (times_mod p r a) w k)
      ∙ xor_assoc (times_mod p (times_mod p r a) k) (times_mod p w k) (powers_sum p a ws)
      ∙ ap (λ (x : ℕ). bit_xor x (bit_xor (times_mod p w k) (powers_sum p a ws)))
      (mod_assoc p pos r a k ∙ ap (times_mod p r) (mod_comm p pos a k))
    where
      k : ℕ
      k = power p (length ws) a

  pub evaluation_horner : (a : ℕ) (ws : List ℕ) → 1 < 2 ^ degree p → Fit p ws → evaluation p a ws ≡ times_mod p (evaluate p a 1 ws) a
  unfolding evaluation powers_sum
  evaluation_horner a ws h fit = ap (λ (x : ℕ). times_mod p x a) (sym (evaluate_sum a 1 ws h fit))
