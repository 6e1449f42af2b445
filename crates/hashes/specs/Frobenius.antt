-- Squaring modulo p. Over an irreducible p of degree n, the least m with x^(2^m) = x is n.
use Rattle.std.specs.Prelude.{◌≡◌, ℕ, zero, suc, ◌+◌, ◌*◌, ◌/◌, ◌%◌, ◌^◌, ◌<◌, ◌≤◌, ◌⊎◌, bit_xor}
use Rattle.std.proofs.Math.Path.{refl, sym, ap, ap₂}
use Rattle.std.proofs.Common.{◌∙◌, inl, inr, lt_irrefl, mod-lt as digit_lt, zero-lt-suc, eq-zero-or-pos, add-zero, add-suc, zero-add, suc-add, lt_of_lt_of_le, ne_of_lt, pow-suc, arith, pow_pos, pow_mono}
use Rattle.std.proofs.Math.Nat.{mul_comm, two-mul}
use Rattle.std.specs.Int.Bits.{xor_assoc, xor_zero_r}
use Rattle.std.proofs.Math.Arith.{bin_ind}
use Rattle.hashes.specs.Field.{power}
use Rattle.hashes.specs.Polynomial.{horner, degree, remainder, times_mod}
use Rattle.hashes.specs.Horner.{horner_zero, horner_step}
use Rattle.hashes.specs.Xor.{xor_cancel, by_last, digit_cases}
use Rattle.hashes.specs.Times.{times_one_l, times_dbl_l, times_comm}
use Rattle.hashes.specs.Degree.{degree_one, degree_half}
use Rattle.hashes.specs.Remainder.{remainder_small, remainder_xor}
use Rattle.hashes.specs.FieldLemmas.{mod_lt, mod_comm, mod_assoc, mod_xor_l, mod_xor_r, mod_zero_l, mod_one_l, mod_one_r, mod_rem_l, mod_rem_r}
use Rattle.hashes.specs.Roots.{Polynomial, constant, next}

-- a to the power 2 ^ k, modulo p
unfoldable pub frobenius : ℕ → ℕ → ℕ → ℕ
frobenius p zero a = a
frobenius p (suc k) a = let r = frobenius p k a in times_mod p r r

-- the value of the polynomial g at the residue y modulo p
unfoldable pub value_at : ℕ → ℕ → ℕ → ℕ
value_at p g y = horner (λ r d. bit_xor (times_mod p r y) d) g

module _ (p : ℕ) (pos : 0 < p) where
  -- ---- squares

  unfoldable pub square : ℕ → ℕ
  square a = times_mod p a a

  square_xor : (a b : ℕ) → square (bit_xor a b) ≡ bit_xor (square a) (square b)
  unfolding square
  square_xor a b =
      mod_xor_l p pos a b (bit_xor a b) ∙ ap₂ bit_xor (mod_xor_r p pos a a b) (mod_xor_r p pos b a b)
      ∙ xor_assoc (times_mod p a a) (times_mod p a b) (bit_xor (times_mod p b a) (times_mod p b b))
      ∙ ap (λ (x : ℕ). bit_xor (times_mod p a a) (bit_xor (times_mod p a b) (bit_xor x (times_mod p b b)))) (mod_comm p pos b a)
      ∙ ap (bit_xor (times_mod p a a)) (xor_cancel (times_mod p a b) (times_mod p b b))

  square_times : (a b : ℕ) → square (times_mod p a b) ≡ times_mod p (square a) (square b)
  unfolding square
  square_times a b =
      mod_assoc p pos a b (times_mod p a b)
      ∙ ap (times_mod p a) (ap (times_mod p b) (mod_comm p pos a b) ∙ sym (mod_assoc p pos b b a) ∙ mod_comm p pos (times_mod p b b) a)
      ∙ sym (mod_assoc p pos a a (times_mod p b b))

  pub frobenius_lt : (k a : ℕ) → a < 2 ^ degree p → frobenius p k a < 2 ^ degree p
  unfolding frobenius
  frobenius_lt zero a h = h
  frobenius_lt (suc k) a h = mod_lt p pos (frobenius p k a) (frobenius p k a)

  pub frobenius_xor : (k a b : ℕ) → frobenius p k (bit_xor a b) ≡ bit_xor (frobenius p k a) (frobenius p k b)
  unfolding frobenius square
  frobenius_xor zero a b = refl
  frobenius_xor (suc k) a b = ap square (frobenius_xor k a b) ∙ square_xor (frobenius p k a) (frobenius p k b)

  pub frobenius_times : (k a b : ℕ) → frobenius p k (times_mod p a b) ≡ times_mod p (frobenius p k a) (frobenius p k b)
  unfolding frobenius square
  frobenius_times zero a b = refl
  frobenius_times (suc k) a b = ap square (frobenius_times k a b) ∙ square_times (frobenius p k a) (frobenius p k b)

  pub frobenius_add : (j k a : ℕ) → frobenius p (j + k) a ≡ frobenius p j (frobenius p k a)
  unfolding frobenius
  frobenius_add zero k a = ap (λ (x : ℕ). frobenius p x a) (zero-add k)
  frobenius_add (suc j) k a = ap (λ (x : ℕ). frobenius p x a) (suc-add j k) ∙ ap (λ (x : ℕ). times_mod p x x) (frobenius_add j k a)

  -- ---- the value of a polynomial at a residue

  value_zero : (y : ℕ) → value_at p 0 y ≡ 0
  unfolding value_at
  value_zero y = horner_zero (λ r d. bit_xor (times_mod p r y) d)

  value_step : (g y : ℕ) → value_at p g y ≡ bit_xor (times_mod p (value_at p (g / 2) y) y) (g % 2)
  unfolding value_at
  value_step g y = horner_step (λ r d. bit_xor (times_mod p r y) d) (xor_zero_r (times_mod p 0 y) ∙ mod_zero_l p pos y) g

  pub value_rem : (g y : ℕ) → value_at p g (remainder y p) ≡ value_at p g y
  value_rem g y =
      bin_ind (λ (g : ℕ). value_at p g (remainder y p) ≡ value_at p g y) (value_zero (remainder y p) ∙ sym (value_zero y))
      (λ g ih. value_step g (remainder y p)
      ∙ ap (λ (x : ℕ). bit_xor x (g % 2)) (mod_rem_r p pos (value_at p (g / 2) (remainder y p)) y ∙ ap (λ (x : ℕ). times_mod p x y) ih)
      ∙ sym (value_step g y)) g

  doubled : (a : ℕ) → times_mod p a 2 ≡ remainder (a * 2) p
  unfolding times_mod
  doubled a = ap (λ (x : ℕ). remainder x p) (times_comm a 2 ∙ times_dbl_l 1 a ∙ ap (λ (x : ℕ). x * 2) (times_one_l a))

  module _ (deg : 1 ≤ degree p) where
    pub one_lt : 1 < 2 ^ degree p
    one_lt = pow_mono deg

    digit_small : (d : ℕ) → d < 2 → d < 2 ^ degree p
    digit_small d h = lt_of_lt_of_le h (pow_mono deg)

    last_small : (g : ℕ) → g % 2 < 2 ^ degree p
    last_small g = digit_small (g % 2) (digit_lt g (zero-lt-suc 1))

    -- at x itself it is the remainder
    pub value_x : (g : ℕ) → value_at p g 2 ≡ remainder g p
    value_x =
        bin_ind (λ (g : ℕ). value_at p g 2 ≡ remainder g p) (value_zero 2 ∙ sym (remainder_small p pos 0 (pow_pos (degree p))))
        (λ g ih. value_step g 2
        ∙ ap₂ bit_xor (ap (λ (x : ℕ). times_mod p x 2) ih ∙ mod_rem_l p pos (g / 2) 2 ∙ doubled (g / 2)) (sym (remainder_small p pos (g % 2) (last_small g)))
        ∙ sym (remainder_xor p pos (g / 2 * 2) (g % 2))
        ∙ ap (λ (x : ℕ). remainder x p) (by_last g))

    square_digit : (d : ℕ) → d < 2 → square d ≡ d
    unfolding square
    square_digit d h = go (digit_cases h)
      where
        go : (d ≡ 0) ⊎ (d ≡ 1) → times_mod p d d ≡ d
        go (inl e) = rw e (mod_zero_l p pos 0)
        go (inr e) = rw e (mod_one_l p pos 1 ∙ remainder_small p pos 1 one_lt)

    square_value : (g y : ℕ) → square (value_at p g y) ≡ value_at p g (square y)
    square_value g y =
        bin_ind (λ (g : ℕ). square (value_at p g y) ≡ value_at p g (square y))
        (ap square (value_zero y) ∙ square_digit 0 (zero-lt-suc 1) ∙ sym (value_zero (square y)))
        (λ g ih. ap square (value_step g y)
        ∙ square_xor (times_mod p (value_at p (g / 2) y) y) (g % 2)
        ∙ ap₂ bit_xor (square_times (value_at p (g / 2) y) y ∙ ap (λ (x : ℕ). times_mod p x (square y)) ih) (square_digit (g % 2) (digit_lt g (zero-lt-suc 1)))
        ∙ sym (value_step g (square y))) g

    pub frobenius_value : (k g y : ℕ) → frobenius p k (value_at p g y) ≡ value_at p g (frobenius p k y)
    unfolding frobenius square
    frobenius_value zero g y = refl
    frobenius_value (suc k) g y = ap square (frobenius_value k g y) ∙ square_value g (frobenius p k y)

    pub frobenius_zero : (k : ℕ) → frobenius p k 0 ≡ 0
    unfolding frobenius square
    frobenius_zero zero = refl
    frobenius_zero (suc k) = ap square (frobenius_zero k) ∙ square_digit 0 (zero-lt-suc 1)

    -- every polynomial with a nonzero coefficient is a polynomial function
    pub value_polynomial : (g : ℕ) → 0 < g → Polynomial p (degree g) (value_at p g)
    value_polynomial =
        bin_ind (λ (g : ℕ). 0 < g → Polynomial p (degree g) (value_at p g)) (λ h. absurd (lt_irrefl 0 h)) (λ g ih h. step g ih h (eq-zero-or-pos (g / 2)))
      where
        value_one : (y : ℕ) → value_at p 1 y ≡ 1
        value_one y = value_step 1 y ∙ ap (λ (x : ℕ). bit_xor (times_mod p x y) 1) (value_zero y) ∙ ap (λ (x : ℕ). bit_xor x 1) (mod_zero_l p pos y)

        step : (g : ℕ) → (0 < g / 2 → Polynomial p (degree (g / 2)) (value_at p (g / 2))) → 0 < g → (g / 2 ≡ 0) ⊎ (0 < g / 2) → Polynomial p (degree g) (value_at p g)
        step g ih h (inl e) =
            let k : g ≡ 1 = omega arith in
            rw (k, degree_one) (constant 1 (λ z. ne_of_lt (zero-lt-suc 0) (sym z)) one_lt value_one)
        step g ih h (inr k) = rw (degree_half g k) (next (g % 2) (ih k) (last_small g) (value_step g))

  -- ---- powers

  power_add : (j k y : ℕ) → times_mod p (power p j y) (power p k y) ≡ remainder (power p (j + k) y) p
  unfolding power
  power_add j zero y = mod_one_r p pos (power p j y) ∙ ap (λ (x : ℕ). remainder (power p x y) p) (sym (add-zero j))
  power_add j (suc k) y =
      sym (mod_assoc p pos (power p j y) (power p k y) y) ∙ ap (λ (x : ℕ). times_mod p x y) (power_add j k y) ∙ mod_rem_l p pos (power p (j + k) y) y
      ∙ sym (remainder_small p pos (times_mod p (power p (j + k) y) y) (mod_lt p pos (power p (j + k) y) y))
      ∙ ap (λ (x : ℕ). remainder (power p x y) p) (sym (add-suc j k))

  pub frobenius_power : (k y : ℕ) → frobenius p (suc k) y ≡ remainder (power p (2 ^ suc k) y) p
  unfolding frobenius
  frobenius_power zero y = unfold power in (sym (mod_rem_l p pos y y) ∙ ap (λ (x : ℕ). times_mod p x y) (sym (mod_one_l p pos y))
      ∙ sym (remainder_small p pos (times_mod p (times_mod p 1 y) y) (mod_lt p pos (times_mod p 1 y) y)))
  frobenius_power (suc k) y =
      ap (λ (x : ℕ). times_mod p x x) (frobenius_power k y)
      ∙ mod_rem_l p pos (power p (2 ^ suc k) y) (remainder (power p (2 ^ suc k) y) p) ∙ mod_rem_r p pos (power p (2 ^ suc k) y) (power p (2 ^ suc k) y)
      ∙ power_add (2 ^ suc k) (2 ^ suc k) y
      ∙ ap (λ (x : ℕ). remainder (power p x y) p) (sym (pow-suc 2 (suc k) ∙ mul_comm (2 ^ suc k) 2 ∙ two-mul (2 ^ suc k)))
