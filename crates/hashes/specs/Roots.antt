-- A polynomial of degree n over the field of the residues modulo an irreducible p has at most n roots.
use Rattle.std.specs.Prelude.{◌≡◌, ℕ, zero, suc, ◌^◌, ◌<◌, ◌≤◌, ◌≢◌, ◌⊎◌, List, [], ◌∷◌, length, bit_xor, refl}
use Rattle.std.proofs.Common.{sym, ap, ap₂, ◌∙◌, subst, inl, inr, zero-le, suc-le-suc}
use Rattle.std.specs.Int.Bits.{xor_assoc, xor_self, xor_zero_r}
use Rattle.std.proofs.lemmas.Nat.{xor_lt}
use Rattle.hashes.specs.Lists.{◌∈◌, Distinct}
use Rattle.hashes.specs.Polynomial.{degree, times_mod}
use Rattle.hashes.specs.Irreducible.{Irreducible}
use Rattle.hashes.specs.Xor.{xor_zero, xor_swap, xor_cancel}
use Rattle.hashes.specs.Divisors.{irreducible_pos}
use Rattle.hashes.specs.FieldLemmas.{mod_lt, mod_comm, mod_assoc, mod_xor_l, mod_xor_r, field_zero}

-- f is a polynomial function of degree n modulo p, by Horner's rule: the leading coefficient, not 0, and then the others
pub data Polynomial (p : ℕ) : ℕ → (ℕ → ℕ) → Type 0 where
  constant : {f : ℕ → ℕ} (c : ℕ) → c ≢ 0 → c < 2 ^ degree p → ((y : ℕ) → f y ≡ c) → Polynomial p 0 f
  next : {n : ℕ} {f g : ℕ → ℕ} (c : ℕ) → Polynomial p n f → c < 2 ^ degree p → ((y : ℕ) → g y ≡ bit_xor (times_mod p (f y) y) c) → Polynomial p (suc n) g

-- y - r divides what a polynomial differs by at y and r
pub record Factored (p n : ℕ) (f : ℕ → ℕ) (r : ℕ) : Type 0 where
  pub quotient : ℕ → ℕ
  pub polynomial : Polynomial p n quotient
  pub splits : (y : ℕ) → bit_xor (f y) (f r) ≡ times_mod p (bit_xor y r) (quotient y)

module _ (p : ℕ) (irr : Irreducible p) where
  pos : 0 < p
  pos = irreducible_pos irr

  values_lt : {n : ℕ} {f : ℕ → ℕ} → Polynomial p n f → (y : ℕ) → f y < 2 ^ degree p
  values_lt (constant c h k e) y = rw (e y) k
  values_lt (next {f = f} c h k e) y = rw (e y) (xor_lt (degree p) (times_mod p (f y) y) c (mod_lt p pos (f y) y) k)

  -- (u + c) + (v + c) = u + v
  drop_constant : (u v c : ℕ) → bit_xor (bit_xor u c) (bit_xor v c) ≡ bit_xor u v
  drop_constant u v c = xor_swap u c v c ∙ ap (bit_xor (bit_xor u v)) (xor_self c) ∙ xor_zero_r (bit_xor u v)

  factor : {n : ℕ} {f : ℕ → ℕ} (r : ℕ) → Polynomial p (suc n) f → Factored p n f r
  factor {f = g} r (next {f = f} c (constant a h k e) l d) =
      record { quotient = λ y. a; polynomial = constant a h k (λ y. refl); splits = split }
    where
      split : (y : ℕ) → bit_xor (g y) (g r) ≡ times_mod p (bit_xor y r) a
      split y =
          ap₂ bit_xor (d y ∙ ap (λ (x : ℕ). bit_xor (times_mod p x y) c) (e y)) (d r ∙ ap (λ (x : ℕ). bit_xor (times_mod p x r) c) (e r))
          ∙ drop_constant (times_mod p a y) (times_mod p a r) c
          ∙ sym (mod_xor_r p pos a y r) ∙ mod_comm p pos a (bit_xor y r)
  factor {f = g} r (next {f = f} c (next {n = n} {f = f'} c' h k e) l d) =
      extend (factor r (next {n = n} {f = f'} {g = f} c' h k e))
    where
      extend : Factored p n f r → Factored p (suc n) g r
      extend q =
          record {
            quotient = λ y. bit_xor (times_mod p (q.quotient y) y) (f r);
            polynomial = next (f r) q.polynomial (values_lt (next {n = n} {f = f'} {g = f} c' h k e) r) (λ y. refl);
            splits = split;
          }
        where
          -- f y · y + f r · r = (f y + f r) · y + (y + r) · f r
          split : (y : ℕ) → bit_xor (g y) (g r) ≡ times_mod p (bit_xor y r) (bit_xor (times_mod p (q.quotient y) y) (f r))
          split y =
              ap₂ bit_xor (d y) (d r)
              ∙ drop_constant (times_mod p (f y) y) (times_mod p (f r) r) c
              ∙ sym (ap₂ bit_xor
              (sym (mod_assoc p pos (bit_xor y r) (q.quotient y) y) ∙ ap (λ (x : ℕ). times_mod p x y) (sym (q.splits y)) ∙ mod_xor_l p pos (f y) (f r) y)
              (mod_xor_l p pos y r (f r) ∙ ap₂ bit_xor (mod_comm p pos y (f r)) (mod_comm p pos r (f r)))
              ∙ xor_assoc (times_mod p (f y) y) (times_mod p (f r) y) (bit_xor (times_mod p (f r) y) (times_mod p (f r) r))
              ∙ ap (bit_xor (times_mod p (f y) y)) (xor_cancel (times_mod p (f r) y) (times_mod p (f r) r)))
              ∙ sym (mod_xor_r p pos (bit_xor y r) (times_mod p (q.quotient y) y) (f r))

  -- A list without repeats of roots has at most n entries.
  pub roots : (n : ℕ) (f : ℕ → ℕ) → Polynomial p n f → (ys : List ℕ) → Distinct ys
      → ((y : ℕ) → y ∈ ys → (y < 2 ^ degree p) × (f y ≡ 0)) → length ys ≤ n
  roots n f h [] apart all = zero-le
  roots zero f (constant c h k e) (r ∷ ys) apart all = absurd (h (sym (e r) ∙ (all r (inl refl)).1))
  roots (suc n) f h (r ∷ ys) apart all =
      suc-le-suc (roots n q.quotient q.polynomial ys apart.1 (λ y m. ((all y (inr m)).0, of_quotient y m)))
    where
      q : Factored p n f r
      q = factor r h

      of_quotient : (y : ℕ) → y ∈ ys → q.quotient y ≡ 0
      of_quotient y m =
          go (field_zero irr (bit_xor y r) (q.quotient y)
          (xor_lt (degree p) y r (all y (inr m)).0 (all r (inl refl)).0) (values_lt q.polynomial y)
          (sym (q.splits y) ∙ ap₂ bit_xor (all y (inr m)).1 (all r (inl refl)).1))
        where
          go : (bit_xor y r ≡ 0) ⊎ (q.quotient y ≡ 0) → q.quotient y ≡ 0
          go (inl z) = absurd (apart.0 (subst (λ (v : ℕ). v ∈ ys) (xor_zero y r z) m))
          go (inr z) = z
