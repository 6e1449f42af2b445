-- The residues modulo an irreducible polynomial are a field.
use Rattle.std.proofs.Common.{◌≡◌, ℕ, zero, suc, ◌+◌, ◌^◌, ◌<◌, ◌≤◌, ◌⊎◌, List, [], ◌∷◌, length, sym, refl, ap, ◌∙◌, subst, inl, inr, suc-le-suc, not-suc-le-zero, add-zero, lt_irrefl, add-suc, suc-add, zero-add, pow_pos}
use native.Mathlib.Nat.{le_step}
use native.Mathlib.Decide.{ℕ_discrete}
use lib.Bits.{bit_xor, xor_comm}
use Rattle.hashes.specs.Field.{ResidueFields, power, powers_sum}
use Rattle.hashes.specs.Irreducible.{Irreducible}
use Rattle.hashes.specs.Lists.{◌∈◌, Distinct}
use Rattle.hashes.specs.Polynomial.{Divides, degree, gcd, remainder, times, times_mod}
use Rattle.hashes.specs.Counting.{all_from_∈, ∈_all}
use Rattle.hashes.specs.Divisors.{Common, gcd_common, irreducible_divisor, irreducible_pos, remainder_of_divides}
use Rattle.hashes.specs.Evaluate.{Fit, evaluate, evaluate_sum}
use Rattle.hashes.specs.FieldLemmas.{mod_assoc, mod_comm, mod_lt, mod_one_l, mod_rem_l, mod_xor_r, mod_zero_l}
use Rattle.hashes.specs.Frobenius.{frobenius, frobenius_power, one_lt}
use Rattle.hashes.specs.Period.{frobenius_degree}
use Rattle.hashes.specs.Remainder.{remainder_add, remainder_lt, remainder_small}
use Rattle.hashes.specs.Roots.{Polynomial, constant, next, roots}
use Rattle.std.specs.List.{AllByRecursion}

module _ (f : ℕ) (irr : Irreducible f) where
  pos : 0 < f
  pos = irreducible_pos irr

  one_small : 1 < 2 ^ degree f
  one_small = one_lt f pos irr.no_constant

  -- ---- the inverse, from the cofactors

  inverse : (a : ℕ) → 0 < a → a < 2 ^ degree f → (b : ℕ) × (b < 2 ^ degree f) × (times_mod f a b ≡ 1)
  inverse a some small = (remainder c.u f, remainder_lt f pos c.u, mod_comm f pos a (remainder c.u f) ∙ mod_rem_l f pos c.u a ∙ inverted)
    where
      c : Common (gcd a f) a f
      c = gcd_common a f

      -- f does not divide a, which has a lower degree
      coprime : (gcd a f ≡ 1) ⊎ (gcd a f ≡ f) → gcd a f ≡ 1
      coprime (inl e) = e
      coprime (inr e) =
          absurd (lt_irrefl 0 (subst (λ (x : ℕ). 0 < x)
          (sym (remainder_small f pos a small) ∙ remainder_of_divides pos (subst (λ (x : ℕ). Divides x a) e c.left)) some))

      inverted : times_mod f c.u a ≡ 1
      inverted = unfold times_mod in
          (sym (remainder_add f pos c.v (times c.u a))
          ∙ ap (λ (x : ℕ). remainder x f) (xor_comm (times c.v f) (times c.u a) ∙ sym c.sum ∙ coprime (irreducible_divisor irr c.right))
          ∙ remainder_small f pos 1 one_small)

  -- ---- powers

  fermat : (y : ℕ) → y < 2 ^ degree f → power f (2 ^ degree f) y ≡ y
  fermat y h = go (degree f) refl
    where
      small : (n : ℕ) → 0 < n → power f n y < 2 ^ degree f
      small zero k = absurd (lt_irrefl 0 k)
      small (suc n) k = unfold power in mod_lt f pos (power f n y) y

      go : (n : ℕ) → degree f ≡ n → power f (2 ^ degree f) y ≡ y
      go zero e = absurd (not-suc-le-zero (subst (λ (n : ℕ). 1 ≤ n) e irr.no_constant))
      go (suc n) e =
          sym (remainder_small f pos (power f (2 ^ degree f) y) (small (2 ^ degree f) (pow_pos (degree f))))
          ∙ ap (λ (k : ℕ). remainder (power f (2 ^ k) y) f) e
          ∙ sym (frobenius_power f pos n y)
          ∙ ap (λ (k : ℕ). frobenius f k y) (sym e)
          ∙ frobenius_degree f irr y h

  -- ---- roots

  -- Horner's rule goes on with more coefficients
  longer : (k : ℕ) (g : ℕ → ℕ) (cs : List ℕ) → Fit f cs → Polynomial f k g → Polynomial f (length cs + k) (λ y. evaluate f y (g y) cs)
  unfolding evaluate
  longer k g [] fit h = rw (zero-add k) h
  longer k g (c ∷ cs) fit h =
      rw (suc-add (length cs) k, ← (add-suc (length cs) k))
      (longer (suc k) (λ y. bit_xor (times_mod f (g y) y) c) cs fit.1 (next c h fit.0 (λ y. refl)))

  few_roots : (cs ys : List ℕ) → Fit f cs → (AllByRecursion (λ c. c ≡ 0) cs → ⊥) → Distinct ys
      → AllByRecursion (λ y. (y < 2 ^ degree f) × (powers_sum f y cs ≡ 0)) ys → length ys < length cs
  few_roots [] ys fit some apart all = absurd (some tt)
  few_roots (c ∷ cs) ys fit some apart all = go (λ some roots. few_roots cs ys fit.1 some apart roots) (ℕ_discrete c 0)
    where
      root : (y : ℕ) → y ∈ ys → (y < 2 ^ degree f) × (powers_sum f y (c ∷ cs) ≡ 0)
      root y m = ∈_all (λ y. (y < 2 ^ degree f) × (powers_sum f y (c ∷ cs) ≡ 0)) y ys all m

      -- a leading coefficient of zero adds nothing
      skip : c ≡ 0 → (y : ℕ) → powers_sum f y (c ∷ cs) ≡ powers_sum f y cs
      skip e y = unfold powers_sum in
          ap (λ (x : ℕ). bit_xor x (powers_sum f y cs)) (ap (λ (x : ℕ). times_mod f x (power f (length cs) y)) e ∙ mod_zero_l f pos (power f (length cs) y))

      horner : (y : ℕ) → evaluate f y c cs ≡ powers_sum f y (c ∷ cs)
      horner y = unfold powers_sum in evaluate_sum f pos y c cs fit.0 fit.1

      go : ((AllByRecursion (λ c. c ≡ 0) cs → ⊥) → AllByRecursion (λ y. (y < 2 ^ degree f) × (powers_sum f y cs ≡ 0)) ys → length ys < length cs)
          → Dec (c ≡ 0) → length ys < suc (length cs)
      go rest (yes e) =
          le_step (rest (λ zeros. some (e, zeros))
          (all_from_∈ (λ y. (y < 2 ^ degree f) × (powers_sum f y cs ≡ 0)) ys (λ y m. ((root y m).0, sym (skip e y) ∙ (root y m).1))))
      go rest (no n) =
          suc-le-suc (subst (λ (k : ℕ). length ys ≤ k) (add-zero (length cs))
          (roots f irr (length cs + 0) (λ y. evaluate f y c cs) (longer 0 (λ y. c) cs fit.1 (constant c n fit.0 (λ y. refl))) ys apart
          (λ y m. ((root y m).0, horner y ∙ (root y m).1))))

pub residue_fields : ResidueFields
residue_fields f irr = record {
  closed = mod_lt f (irreducible_pos irr);
  commutes = mod_comm f (irreducible_pos irr);
  associates = mod_assoc f (irreducible_pos irr);
  distributes = mod_xor_r f (irreducible_pos irr);
  one = λ a h. mod_one_l f (irreducible_pos irr) a ∙ remainder_small f (irreducible_pos irr) a h;
  inverse = inverse f irr;
  fermat = fermat f irr;
  few_roots = few_roots f irr;
}
