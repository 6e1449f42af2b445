-- A polynomial of a linear map: `act T d s` is d(T) s, the bitwise sum of T^j s over each j where d has x^j.
use Rattle.std.specs.Prelude.{◌≡◌, ℕ, zero, suc, ◌*◌, ◌/◌, ◌%◌, ◌^◌, ◌<◌, ◌⊎◌, bit_xor, refl}
use Rattle.std.proofs.Common.{sym, ap₂, ◌∙◌, inl, inr, zero-mul, one-mul, zero-lt-suc, mul-div_cancel, pow-suc}
use Rattle.std.proofs.Math.Path.{ap}
use Rattle.std.proofs.Math.Nat.{mul-mod_left}
use Rattle.std.proofs.Math.Arith.{bin_ind}
use Rattle.std.specs.Int.Bits.{xor_self, xor_zero_r}
use Rattle.std.proofs.lemmas.Nat.{xor_lt}
use Rattle.hashes.specs.Polynomial.{horner, times}
use Rattle.hashes.specs.Horner.{horner_zero, horner_step}
use Rattle.hashes.specs.Xor.{xor_swap, half_xor, digit_xor, digit_mul_xor, xor_digit_mul, digit_cases}
use Rattle.hashes.specs.Times.{times_step, times_zero_l}
use Rattle.hashes.specs.Bits.{digit_lt}

unfoldable pub act : (ℕ → ℕ) → ℕ → ℕ → ℕ
act T d s = horner (λ r c. bit_xor (T r) (c * s)) d

-- T^j s
unfoldable pub iterate : (ℕ → ℕ) → ℕ → ℕ → ℕ
iterate T zero s = s
iterate T (suc j) s = T (iterate T j s)

pub iterate_inner : (T : ℕ → ℕ) (j s : ℕ) → iterate T j (T s) ≡ iterate T (suc j) s
unfolding iterate
iterate_inner T zero s = refl
iterate_inner T (suc j) s = ap T (iterate_inner T j s)

pub act_zero_l : (T : ℕ → ℕ) (s : ℕ) → act T 0 s ≡ 0
unfolding act
act_zero_l T s = horner_zero (λ r c. bit_xor (T r) (c * s))

module _ (T : ℕ → ℕ) (T_xor : (a b : ℕ) → T (bit_xor a b) ≡ bit_xor (T a) (T b)) where
  T_zero : T 0 ≡ 0
  T_zero = T_xor 0 0 ∙ xor_self (T 0)

  act_step : (d s : ℕ) → act T d s ≡ bit_xor (T (act T (d / 2) s)) (d % 2 * s)
  unfolding act
  act_step d s = horner_step (λ r c. bit_xor (T r) (c * s)) (ap₂ bit_xor T_zero (zero-mul s)) d

  -- linear in the word
  act_xor_r : (d s t : ℕ) → act T d (bit_xor s t) ≡ bit_xor (act T d s) (act T d t)
  act_xor_r d s t =
      bin_ind (λ (d : ℕ). act T d (bit_xor s t) ≡ bit_xor (act T d s) (act T d t))
      (act_zero_l T (bit_xor s t) ∙ sym (ap₂ bit_xor (act_zero_l T s) (act_zero_l T t)))
      (λ d ih. act_step d (bit_xor s t)
      ∙ ap₂ bit_xor (ap T ih ∙ T_xor (act T (d / 2) s) (act T (d / 2) t)) (digit_mul_xor (d % 2) s t (digit_lt d))
      ∙ xor_swap (T (act T (d / 2) s)) (T (act T (d / 2) t)) (d % 2 * s) (d % 2 * t)
      ∙ sym (ap₂ bit_xor (act_step d s) (act_step d t))) d

  pub act_zero_r : (d : ℕ) → act T d 0 ≡ 0
  act_zero_r d = act_xor_r d 0 0 ∙ xor_self (act T d 0)

  -- a sum of polynomials
  pub act_xor : (d e s : ℕ) → act T (bit_xor d e) s ≡ bit_xor (act T d s) (act T e s)
  act_xor d e s =
      bin_ind (λ (d : ℕ). (e : ℕ) → act T (bit_xor d e) s ≡ bit_xor (act T d s) (act T e s))
      (λ e. ap (λ (x : ℕ). bit_xor x (act T e s)) (sym (act_zero_l T s)))
      (λ d ih e. act_step (bit_xor d e) s
      ∙ ap₂ (λ (x y : ℕ). bit_xor (T (act T x s)) (y * s)) (half_xor d e) (digit_xor d e)
      ∙ ap₂ bit_xor (ap T (ih (e / 2)) ∙ T_xor (act T (d / 2) s) (act T (e / 2) s)) (xor_digit_mul (d % 2) (e % 2) s (digit_lt d) (digit_lt e))
      ∙ xor_swap (T (act T (d / 2) s)) (T (act T (e / 2) s)) (d % 2 * s) (e % 2 * s)
      ∙ sym (ap₂ bit_xor (act_step d s) (act_step e s))) d e

  pub act_one : (s : ℕ) → act T 1 s ≡ s
  act_one s = act_step 1 s ∙ ap₂ bit_xor (ap T (act_zero_l T s) ∙ T_zero) (one-mul s)

  -- x times a polynomial
  act_dbl : (d s : ℕ) → act T (d * 2) s ≡ T (act T d s)
  act_dbl d s =
      act_step (d * 2) s
      ∙ ap₂ (λ (x y : ℕ). bit_xor (T (act T x s)) (y * s)) (mul-div_cancel d (zero-lt-suc 1)) (mul-mod_left d 2)
      ∙ ap (bit_xor (T (act T d s))) (zero-mul s) ∙ xor_zero_r (T (act T d s))

  -- x^j
  pub act_pow : (j s : ℕ) → act T (2 ^ j) s ≡ iterate T j s
  unfolding iterate
  act_pow zero s = act_one s
  act_pow (suc j) s = ap (λ (x : ℕ). act T x s) (pow-suc 2 j) ∙ act_dbl (2 ^ j) s ∙ ap T (act_pow j s)

  act_scale : (c d s : ℕ) → c < 2 → act T (c * d) s ≡ c * act T d s
  act_scale c d s h = go (digit_cases h)
    where
      go : (c ≡ 0) ⊎ (c ≡ 1) → act T (c * d) s ≡ c * act T d s
      go (inl e) = rw e (ap (λ (x : ℕ). act T x s) (zero-mul d) ∙ act_zero_l T s ∙ sym (zero-mul (act T d s)))
      go (inr e) = rw e (ap (λ (x : ℕ). act T x s) (one-mul d) ∙ sym (one-mul (act T d s)))

  -- a product of polynomials
  pub act_times : (d e s : ℕ) → act T (times d e) s ≡ act T d (act T e s)
  act_times d e s =
      bin_ind (λ (d : ℕ). act T (times d e) s ≡ act T d (act T e s))
      (ap (λ (x : ℕ). act T x s) (times_zero_l e) ∙ act_zero_l T s ∙ sym (act_zero_l T (act T e s)))
      (λ d ih. ap (λ (x : ℕ). act T x s) (times_step d e)
      ∙ act_xor (times (d / 2) e * 2) (d % 2 * e) s
      ∙ ap₂ bit_xor (act_dbl (times (d / 2) e) s ∙ ap T ih) (act_scale (d % 2) e s (digit_lt d))
      ∙ sym (act_step d (act T e s))) d

  pub act_T : (d s : ℕ) → act T d (T s) ≡ T (act T d s)
  act_T d s =
      bin_ind (λ (d : ℕ). act T d (T s) ≡ T (act T d s))
      (act_zero_l T (T s) ∙ sym (ap T (act_zero_l T s) ∙ T_zero))
      (λ d ih. act_step d (T s)
      ∙ ap₂ bit_xor (ap T ih) (scale (d % 2) (digit_lt d))
      ∙ sym (ap T (act_step d s) ∙ T_xor (T (act T (d / 2) s)) (d % 2 * s))) d
    where
      scale : (c : ℕ) → c < 2 → c * T s ≡ T (c * s)
      scale c h = go (digit_cases h)
        where
          go : (c ≡ 0) ⊎ (c ≡ 1) → c * T s ≡ T (c * s)
          go (inl e) = rw e (zero-mul (T s) ∙ sym (ap T (zero-mul s) ∙ T_zero))
          go (inr e) = rw e (one-mul (T s) ∙ sym (ap T (one-mul s)))

  -- the lowest term first
  pub act_low : (d s : ℕ) → act T d s ≡ bit_xor (act T (d / 2) (T s)) (d % 2 * s)
  act_low d s = act_step d s ∙ ap (λ (x : ℕ). bit_xor x (d % 2 * s)) (sym (act_T (d / 2) s))

  -- words stay words
  pub act_lt : (n : ℕ) → ((a : ℕ) → a < 2 ^ n → T a < 2 ^ n) → (d s : ℕ) → s < 2 ^ n → act T d s < 2 ^ n
  act_lt n T_lt d s h =
      bin_ind (λ (d : ℕ). act T d s < 2 ^ n) (rw (act_zero_l T s) (lib.Pow.pow_pos n))
      (λ d ih. rw (act_step d s) (xor_lt n (T (act T (d / 2) s)) (d % 2 * s) (T_lt (act T (d / 2) s) ih) (scaled (d % 2) (digit_cases (digit_lt d))))) d
    where
      scaled : (c : ℕ) → (c ≡ 0) ⊎ (c ≡ 1) → c * s < 2 ^ n
      scaled c (inl e) = rw (e, zero-mul s) (lib.Pow.pow_pos n)
      scaled c (inr e) = rw (e, one-mul s) h
