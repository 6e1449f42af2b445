-- Over an irreducible p of degree n, x^(2^m) = x holds for an m from 1 to n, and for none below n: so m is n.
use Rattle.std.specs.Prelude.{◌≡◌, ℕ, zero, suc, ◌-◌, ◌^◌, ◌<◌, ◌≤◌, ◌⊎◌, bit_xor}
use Rattle.std.proofs.Math.Path.{refl, sym, ap, subst}
use Rattle.std.proofs.Common.{◌∙◌, inl, inr, zero-le, suc-le-suc, le_antisymm, lt_irrefl, zero-lt-suc, le_trans, le_of_eq, le_of_lt, not-le_of_lt, add-sub_of_le, pow_pos, pow_mono}
use Rattle.std.proofs.Math.Nat.{ne_of_lt}
use Rattle.std.proofs.Math.Decide.{dec_lt}
use native.Mathlib.Omega.{arith}
use Rattle.std.specs.Int.Bits.{xor_self, xor_zero_r}
use Rattle.std.proofs.lemmas.Nat.{xor_lt}
use Rattle.std.proofs.Math.Pow.{pow-lt}
use Rattle.hashes.specs.Lists.{Distinct}
use Rattle.hashes.specs.Field.{power}
use Rattle.hashes.specs.Irreducible.{Irreducible}
use Rattle.hashes.specs.Polynomial.{degree, remainder, times_mod}
use Rattle.hashes.specs.Xor.{xor_zero}
use Rattle.hashes.specs.Times.{times_one_l}
use Rattle.hashes.specs.Remainder.{remainder_lt, remainder_small, remainder_multiple}
use Rattle.hashes.specs.Divisors.{irreducible_pos}
use Rattle.hashes.specs.FieldLemmas.{mod_lt, mod_xor_l, mod_one_l, field_zero}
use Rattle.hashes.specs.Roots.{Polynomial, constant, next, roots}
use Rattle.hashes.specs.ValuesBelow.{values_below, length_values_below, values_below_all, apart_or, all_apart}
use Rattle.hashes.specs.Frobenius.{frobenius, value_at, square, frobenius_lt, frobenius_xor, frobenius_add, value_rem, value_x, frobenius_value, frobenius_zero, value_polynomial, frobenius_power, one_lt}

module _ (p : ℕ) (irr : Irreducible p) where
  pos : 0 < p
  pos = irreducible_pos irr

  deg : 1 ≤ degree p
  deg = irr.no_constant

  -- x modulo p
  x : ℕ
  x = remainder 2 p

  -- ---- squaring loses nothing

  square_zero : (a : ℕ) → a < 2 ^ degree p → square p pos a ≡ 0 → a ≡ 0
  unfolding square
  square_zero a h e = go (field_zero irr a a h h e)
    where
      go : (a ≡ 0) ⊎ (a ≡ 0) → a ≡ 0
      go (inl z) = z
      go (inr z) = z

  frobenius_kernel : (k a : ℕ) → a < 2 ^ degree p → frobenius p k a ≡ 0 → a ≡ 0
  unfolding frobenius square
  frobenius_kernel zero a h e = e
  frobenius_kernel (suc k) a h e = frobenius_kernel k a h (square_zero (frobenius p k a) (frobenius_lt p pos k a h) e)

  frobenius_injective : (k a b : ℕ) → a < 2 ^ degree p → b < 2 ^ degree p → frobenius p k a ≡ frobenius p k b → a ≡ b
  frobenius_injective k a b ha hb e =
      xor_zero a b (frobenius_kernel k (bit_xor a b) (xor_lt (degree p) a b ha hb)
      (frobenius_xor p pos k a b ∙ ap (λ (y : ℕ). bit_xor y (frobenius p k b)) e ∙ xor_self (frobenius p k b)))

  -- ---- the conjugates of x are roots of p, so two of the first n + 1 are equal

  conjugate : ℕ → ℕ
  conjugate k = frobenius p k x

  conjugate_root : (k : ℕ) → (conjugate k < 2 ^ degree p) × (value_at p p (conjugate k) ≡ 0)
  unfolding conjugate x
  conjugate_root k = (
    frobenius_lt p pos k (remainder 2 p) (remainder_lt p pos 2),
    sym (frobenius_value p pos deg k p (remainder 2 p))
        ∙ ap (frobenius p k) (value_rem p pos p 2 ∙ value_x p pos deg p ∙ ap (λ (y : ℕ). remainder y p) (sym (times_one_l p)) ∙ remainder_multiple p pos 1)
        ∙ frobenius_zero p pos deg k,
  )

  conjugates : (m : ℕ) × (1 ≤ m) × (m ≤ degree p) × (frobenius p m (remainder 2 p) ≡ remainder 2 p)
  unfolding conjugate x
  conjugates = go (apart_or conjugate (suc (degree p)))
    where
      go : Distinct (values_below conjugate (suc (degree p))) ⊎ ((i : ℕ) × (j : ℕ) × (i < j) × (j < suc (degree p)) × (conjugate i ≡ conjugate j))
          → (m : ℕ) × (1 ≤ m) × (m ≤ degree p) × (frobenius p m (remainder 2 p) ≡ remainder 2 p)
      go (inl apart) =
          absurd (lt_irrefl (degree p) (le_trans (le_of_eq (sym (length_values_below conjugate (suc (degree p)))))
          (roots p irr (degree p) (value_at p p) (value_polynomial p pos deg p pos) (values_below conjugate (suc (degree p))) apart
          (values_below_all (λ (y : ℕ). (y < 2 ^ degree p) × (value_at p p y ≡ 0)) conjugate (suc (degree p)) (λ i h. conjugate_root i)))))
      go (inr (i, j, l, h, e)) = (
        j - i,
        omega arith,
        omega arith,
        frobenius_injective i (frobenius p (j - i) x) x (frobenius_lt p pos (j - i) x (remainder_lt p pos 2)) (remainder_lt p pos 2)
            (sym (frobenius_add p pos i (j - i) x) ∙ ap (λ (k : ℕ). frobenius p k x) (add-sub_of_le (le_of_lt l)) ∙ sym e),
      )

  -- ---- where x^(2^m) = x, every residue is a root of y^(2^m) - y

  power_polynomial : (k : ℕ) → Polynomial p k (power p k)
  unfolding power
  power_polynomial zero = constant 1 (λ z. ne_of_lt (zero-lt-suc 0) (sym z)) (one_lt p pos deg) (λ y. refl)
  power_polynomial (suc k) = next 0 (power_polynomial k) (pow_pos (degree p)) (λ y. sym (xor_zero_r (times_mod p (power p k y) y)))

  -- y^(k + 2) + y
  difference : ℕ → ℕ → ℕ
  difference k y = bit_xor (times_mod p (bit_xor (times_mod p (power p k y) y) 1) y) 0

  difference_polynomial : (k : ℕ) → Polynomial p (suc (suc k)) (difference k)
  unfolding difference
  difference_polynomial k =
      next 0 (next {g = λ y. bit_xor (times_mod p (power p k y) y) 1} 1 (power_polynomial k) (one_lt p pos deg) (λ y. refl)) (pow_pos (degree p)) (λ y. refl)

  difference_is : (k y : ℕ) → y < 2 ^ degree p → difference k y ≡ bit_xor (power p (suc (suc k)) y) y
  unfolding difference power
  difference_is k y h =
      xor_zero_r (times_mod p (bit_xor (times_mod p (power p k y) y) 1) y)
      ∙ mod_xor_l p pos (times_mod p (power p k y) y) 1 y
      ∙ ap (bit_xor (times_mod p (times_mod p (power p k y) y) y)) (mod_one_l p pos y ∙ remainder_small p pos y h)

  fixed : (m : ℕ) → frobenius p m x ≡ x → (a : ℕ) → a < 2 ^ degree p → frobenius p m a ≡ a
  unfolding x
  fixed m e a h =
      ap (frobenius p m) (sym here) ∙ frobenius_value p pos deg m a (remainder 2 p) ∙ ap (value_at p a) e ∙ here
    where
      here : value_at p a (remainder 2 p) ≡ a
      here = value_rem p pos a 2 ∙ value_x p pos deg a ∙ remainder_small p pos a h

  power_lt : (k y : ℕ) → power p (suc k) y < 2 ^ degree p
  unfolding power
  power_lt k y = mod_lt p pos (power p k y) y

  difference_root : (m k : ℕ) → 2 ^ suc m ≡ suc (suc k) → frobenius p (suc m) x ≡ x → (y : ℕ) → y < 2 ^ degree p → difference k y ≡ 0
  difference_root m k s e y h =
      difference_is k y h
      ∙ ap (λ (z : ℕ). bit_xor z y)
      (sym (remainder_small p pos (power p (suc (suc k)) y) (power_lt (suc k) y)) ∙ ap (λ (z : ℕ). remainder (power p z y) p) (sym s)
      ∙ sym (frobenius_power p pos m y) ∙ fixed (suc m) e y h)
      ∙ xor_self y

  pub period : (m : ℕ) → 1 ≤ m → frobenius p m (remainder 2 p) ≡ remainder 2 p → degree p ≤ m
  unfolding x
  period zero h e = absurd (lt_irrefl 0 h)
  period (suc m) h e = go (dec_lt (suc m) (degree p))
    where
      k : ℕ
      k = 2 ^ suc m - 2

      two : 2 ≤ 2 ^ suc m
      two = pow_mono {i = 1} {j = suc m} (suc-le-suc zero-le)

      is_two : 2 ^ suc m ≡ suc (suc k)
      is_two = omega (arith, two)

      count : 2 ^ degree p ≤ 2 ^ suc m
      count =
          le_trans (le_of_eq (sym (length_values_below (λ i. i) (2 ^ degree p))))
          (le_trans (roots p irr (suc (suc k)) (difference k) (difference_polynomial k) (values_below (λ i. i) (2 ^ degree p)) apart
          (values_below_all (λ (y : ℕ). (y < 2 ^ degree p) × (difference k y ≡ 0)) (λ i. i) (2 ^ degree p)
          (λ i l. (l, difference_root m k is_two e i l))))
          (le_of_eq (sym is_two)))
        where
          apart : Distinct (values_below (λ i. i) (2 ^ degree p))
          apart = all_apart (2 ^ degree p)

      go : Dec (suc m < degree p) → degree p ≤ suc m
      go (yes l) = absurd (not-le_of_lt (pow-lt l) count)
      go (no l) = omega arith

  -- so every residue is its own power with the exponent 2 ^ n
  pub frobenius_degree : (a : ℕ) → a < 2 ^ degree p → frobenius p (degree p) a ≡ a
  unfolding x
  frobenius_degree a h =
      let (m, one, most, e) = conjugates in
      subst (λ (k : ℕ). frobenius p k a ≡ a) (le_antisymm most (period m one e)) (fixed m e a h)
