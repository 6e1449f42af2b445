-- Irreducible divisors, and residues modulo a divisor.
use Rattle.std.specs.Prelude.{◌≡◌, ℕ, zero, suc, ◌<◌, ◌≤◌, ◌⊎◌, bit_xor}
use Rattle.std.proofs.Math.Path.{refl, sym, ap, subst}
use Rattle.std.proofs.Common.{◌∙◌, inl, inr, zero-le, suc-le-suc, lt_irrefl, eq-zero-or-pos, lt_of_lt_of_le, not-suc-le-zero, arith}
use Rattle.std.proofs.Math.Decide.{dec_le, map_dec}
use Rattle.hashes.specs.Polynomial.{times, degree, remainder, Divides, times_mod}
use Rattle.hashes.specs.Irreducible.{Irreducible}
use Rattle.hashes.specs.Times.{times_assoc}
use Rattle.hashes.specs.Degree.{degree_zero, degree_one, degree_lead, lead_low, lt_degree}
use Rattle.hashes.specs.Remainder.{divided, remainder_remainder, remainder_times, remainder_add}
use Rattle.hashes.specs.Divisors.{divides_refl, divides_trans, decide_divides, divisor_pos, constant_one}
use Rattle.hashes.specs.FieldLemmas.{mod_rem_l, mod_rem_r}
use Rattle.hashes.specs.Frobenius.{frobenius}
use Rattle.hashes.specs.Least.{least}

-- ---- degrees

pub degree_pos : {a : ℕ} → 1 ≤ degree a → 2 ≤ a
degree_pos {a} h = go (dec_le 2 a)
  where
    small : (b : ℕ) → 1 ≤ degree b → ¬ (2 ≤ b) → ⊥
    small zero k n = not-suc-le-zero (subst (λ (x : ℕ). 1 ≤ x) degree_zero k)
    small (suc zero) k n = not-suc-le-zero (subst (λ (x : ℕ). 1 ≤ x) degree_one k)
    small (suc (suc b)) k n = n (suc-le-suc (suc-le-suc zero-le))

    go : Dec (2 ≤ a) → 2 ≤ a
    go (yes k) = k
    go (no n) = absurd (small a h n)

pub pos_degree : {a : ℕ} → 2 ≤ a → 1 ≤ degree a
pos_degree {a} h = go (eq-zero-or-pos (degree a))
  where
    go : (degree a ≡ 0) ⊎ (0 < degree a) → 1 ≤ degree a
    go (inl z) = let one : a ≡ 1 = constant_one (omega arith) z in absurd (lt_irrefl 1 (subst (λ (x : ℕ). 2 ≤ x) one h))
    go (inr k) = k

lower : {a b : ℕ} → 0 < b → degree a < degree b → a < b
lower {a} {b} pos h = lt_of_lt_of_le (lt_degree (degree b) a h) (lead_low b (degree b) (degree_lead b pos))

-- ---- every polynomial but a constant has an irreducible divisor: the least but 1, as a number

abbrev Factor : ℕ → ℕ → Type 0
Factor a d = (2 ≤ d) × Divides d a

decide_factor : (a d : ℕ) → Dec (Factor a d)
decide_factor a d = go (dec_le 2 d)
  where
    go : Dec (2 ≤ d) → Dec (Factor a d)
    go (no n) = no (λ h. n h.0)
    go (yes h) = map_dec (λ k. (h, k)) (λ k. k.1) (decide_divides d a (omega arith))

pub irreducible_factor : (a : ℕ) → 1 ≤ degree a → (f : ℕ) × Irreducible f × Divides f a
irreducible_factor a h = of_least (least (Factor a) (decide_factor a) a (degree_pos h, divides_refl a))
  where
    of_least : (m : ℕ) × Factor a m × ((k : ℕ) → k < m → Factor a k → ⊥) → (f : ℕ) × Irreducible f × Divides f a
    of_least (m, (big, div), none) =
        (m, record { no_constant = pos_degree big; no_divisor = λ d one low k. none d (lower (omega arith) low) (degree_pos one, divides_trans k div) }, div)

-- ---- residues modulo a divisor of p

module _ (p f : ℕ) (pos : 0 < p) (div : Divides f p) where
  pos_f : 0 < f
  pos_f = divisor_pos pos div

  pub remainder_divisor : (a : ℕ) → remainder (remainder a p) f ≡ remainder a f
  remainder_divisor a =
      let (q, e) = divided p pos a in
      sym (ap (λ (x : ℕ). remainder x f)
      (e ∙ ap (λ (x : ℕ). bit_xor x (remainder a p)) (ap (times q) (sym div.product) ∙ sym (times_assoc q div.quotient f)))
      ∙ remainder_add f pos_f (times q div.quotient) (remainder a p))

  pub frobenius_divisor : (k a : ℕ) → remainder (frobenius p k a) f ≡ remainder (frobenius f k a) f
  unfolding frobenius times_mod
  frobenius_divisor zero a = refl
  frobenius_divisor (suc k) a =
      remainder_divisor (times (frobenius p k a) (frobenius p k a))
      ∙ sym (remainder_times f pos_f (frobenius p k a) (frobenius p k a))
      ∙ ap (λ (x : ℕ). remainder (times x x) f) (frobenius_divisor k a)
      ∙ remainder_times f pos_f (frobenius f k a) (frobenius f k a)
      ∙ sym (remainder_remainder f pos_f (times (frobenius f k a) (frobenius f k a)))

pub frobenius_start : (p k a : ℕ) → 0 < p → 1 ≤ k → frobenius p k (remainder a p) ≡ frobenius p k a
unfolding frobenius
frobenius_start p zero a pos h = absurd (lt_irrefl 0 h)
frobenius_start p (suc zero) a pos h = mod_rem_l p pos a (remainder a p) ∙ mod_rem_r p pos a a
frobenius_start p (suc (suc k)) a pos h = ap (λ (x : ℕ). times_mod p x x) (frobenius_start p (suc k) a pos (suc-le-suc zero-le))
