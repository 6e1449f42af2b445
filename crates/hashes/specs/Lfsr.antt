-- The register is linear, and its polynomial x^n + p annuls every word.
use Rattle.std.specs.Prelude.{◌≡◌, ℕ, zero, suc, ◌+◌, ◌*◌, ◌/◌, ◌%◌, ◌^◌, ◌<◌, ◌≤◌, bit_and}
use Rattle.std.proofs.Math.Path.{refl, sym, ap, ap₂}
use Rattle.std.proofs.Common.{◌∙◌, one-mul, add-zero, add-suc, le_of_eq, le_refl, lt_of_lt_of_le, le_of_suc-le-suc, not-suc-le-zero, pow_pos, pow_mono}
use Rattle.std.proofs.Math.Nat.{mul_comm, pow-suc, mod-eq_of_lt, le_of_suc-le}
use Rattle.std.proofs.Math.Arith.{digits_lt, lt-one}
use Rattle.std.specs.Int.Bits.{bit_xor, xor_self, xor_zero_r, xor_shifted, and_shifted, and_zero_r, shifted_half}
use Rattle.std.proofs.lemmas.Nat.{xor_comm}
use Rattle.hashes.specs.Toeplitz.{bit, parity, lfsr, state}
use Rattle.hashes.specs.Xor.{half_xor, digit_xor, xor_swap, xor_digit_mul}
use Rattle.hashes.specs.Bits.{digit_lt, and_xor, parity_zero, parity_lt, parity_xor, parity_and_step, bit_zero, bit_half, bit_of_zero, bit_of_xor, bit_above, bit_moved_below, bit_moved, half_lt, same_bits, digit_mul_last}
use Rattle.hashes.specs.Act.{act, iterate, iterate_inner, act_low, act_xor, act_pow, act_zero_l, act_lt, act_T}

module _ (n p : ℕ) where
  feedback : ℕ → ℕ
  feedback s = parity (bit_and s p)

  pub lfsr_xor : (s t : ℕ) → lfsr n p (bit_xor s t) ≡ bit_xor (lfsr n p s) (lfsr n p t)
  unfolding lfsr
  lfsr_xor s t =
      ap (λ (x : ℕ). x / 2)
      (ap (λ (x : ℕ). bit_xor (bit_xor s t) (x * 2 ^ n)) (ap parity (and_xor s t p) ∙ parity_xor (bit_and s p) (bit_and t p))
      ∙ ap (bit_xor (bit_xor s t)) (xor_digit_mul (parity (bit_and s p)) (parity (bit_and t p)) (2 ^ n) (parity_lt (bit_and s p)) (parity_lt (bit_and t p)))
      ∙ xor_swap s t (parity (bit_and s p) * 2 ^ n) (parity (bit_and t p) * 2 ^ n))
      ∙ half_xor (bit_xor s (parity (bit_and s p) * 2 ^ n)) (bit_xor t (parity (bit_and t p) * 2 ^ n))

  -- words stay words
  pub lfsr_lt : (s : ℕ) → s < 2 ^ n → lfsr n p s < 2 ^ n
  unfolding lfsr
  lfsr_lt s h =
      half_lt n (bit_xor s (parity (bit_and s p) * 2 ^ n))
      (rw (xor_comm s (parity (bit_and s p) * 2 ^ n), xor_shifted (parity (bit_and s p)) n s h, pow-suc 2 n, mul_comm (2 ^ n) 2)
      (digits_lt (parity_lt (bit_and s p)) h))

  -- every bit moves down by one place, and the top one comes from the taps
  lfsr_bit : (s i : ℕ) → suc i < n → bit (lfsr n p s) i ≡ bit s (suc i)
  unfolding lfsr
  lfsr_bit s i h =
      bit_half (bit_xor s (parity (bit_and s p) * 2 ^ n)) i ∙ bit_of_xor s (parity (bit_and s p) * 2 ^ n) (suc i)
      ∙ ap (bit_xor (bit s (suc i))) (bit_moved_below (parity (bit_and s p)) n (suc i) h) ∙ xor_zero_r (bit s (suc i))

  lfsr_top : (s i : ℕ) → suc i ≡ n → s < 2 ^ n → bit (lfsr n p s) i ≡ parity (bit_and s p)
  unfolding lfsr
  lfsr_top s i e h =
      bit_half (bit_xor s (parity (bit_and s p) * 2 ^ n)) i ∙ ap (bit (bit_xor s (parity (bit_and s p) * 2 ^ n))) e
      ∙ bit_of_xor s (parity (bit_and s p) * 2 ^ n) n
      ∙ ap₂ bit_xor (bit_above s n h) (bit_moved (parity (bit_and s p)) n ∙ mod-eq_of_lt (parity_lt (bit_and s p)))

  -- the bits below the top are those of s / 2
  lfsr_and : (s e k : ℕ) → suc k ≤ n → e < 2 ^ k → bit_and (lfsr n p s) e ≡ bit_and (s / 2) e
  unfolding lfsr
  lfsr_and s e k l h = go n refl l
    where
      go : (m : ℕ) → m ≡ n → suc k ≤ m → bit_and (bit_xor s (parity (bit_and s p) * 2 ^ n) / 2) e ≡ bit_and (s / 2) e
      go zero f l = absurd (not-suc-le-zero l)
      go (suc m) f l =
          ap (λ (x : ℕ). bit_and (bit_xor s (parity (bit_and s p) * 2 ^ x) / 2) e) (sym f)
          ∙ ap (λ (x : ℕ). bit_and x e) (half_xor s (parity (bit_and s p) * 2 ^ suc m) ∙ ap (bit_xor (s / 2)) (shifted_half (parity (bit_and s p)) m))
          ∙ and_xor (s / 2) (parity (bit_and s p) * 2 ^ m) e
          ∙ ap (bit_xor (bit_and (s / 2) e)) (and_shifted (parity (bit_and s p)) m e (lt_of_lt_of_le h (pow_mono (le_of_suc-le-suc l))))
          ∙ xor_zero_r (bit_and (s / 2) e)

  -- the last bit after j < n steps is the bit at j
  iterate_bit : (j s : ℕ) → j < n → iterate (lfsr n p) j s % 2 ≡ bit s j
  unfolding iterate
  iterate_bit zero s h = sym (bit_zero s)
  iterate_bit (suc j) s h =
      ap (λ (x : ℕ). x % 2) (sym (iterate_inner (lfsr n p) j s)) ∙ iterate_bit j (lfsr n p s) (le_of_suc-le h) ∙ lfsr_bit s j h

  -- after n steps it is what the taps gave first
  iterate_top : (s : ℕ) → 1 ≤ n → s < 2 ^ n → iterate (lfsr n p) n s % 2 ≡ parity (bit_and s p)
  iterate_top s pos h = go n refl pos
    where
      go : (m : ℕ) → m ≡ n → 1 ≤ m → iterate (lfsr n p) n s % 2 ≡ parity (bit_and s p)
      go zero f l = absurd (not-suc-le-zero l)
      go (suc m) f l =
          ap (λ (x : ℕ). iterate (lfsr n p) x s % 2) (sym f)
          ∙ ap (λ (x : ℕ). x % 2) (sym (iterate_inner (lfsr n p) m s))
          ∙ iterate_bit m (lfsr n p s) (le_of_eq f)
          ∙ lfsr_top s m f h

  -- the last bit of d(T) s, for d of degree below n
  act_last : (k d s : ℕ) → k ≤ n → d < 2 ^ k → act (lfsr n p) d s % 2 ≡ parity (bit_and s d)
  act_last zero d s l h =
      ap (λ (x : ℕ). act (lfsr n p) x s % 2) (lt-one h) ∙ ap (λ (x : ℕ). x % 2) (act_zero_l (lfsr n p) s)
      ∙ sym (ap (λ (x : ℕ). parity (bit_and s x)) (lt-one h) ∙ ap parity (and_zero_r s) ∙ parity_zero)
  act_last (suc k) d s l h =
      ap (λ (x : ℕ). x % 2) (act_low (lfsr n p) lfsr_xor d s)
      ∙ digit_xor (act (lfsr n p) (d / 2) (lfsr n p s)) (d % 2 * s)
      ∙ ap₂ bit_xor
      (act_last k (d / 2) (lfsr n p s) (le_of_suc-le l) (half_lt k d h) ∙ ap parity (lfsr_and s (d / 2) k l (half_lt k d h)))
      (digit_mul_last (d % 2) s (digit_lt d))
      ∙ xor_comm (parity (bit_and (s / 2) (d / 2))) (bit_and (s % 2) (d % 2))
      ∙ sym (parity_and_step s d)

  iterate_act : (j d s : ℕ) → iterate (lfsr n p) j (act (lfsr n p) d s) ≡ act (lfsr n p) d (iterate (lfsr n p) j s)
  unfolding iterate
  iterate_act zero d s = refl
  iterate_act (suc j) d s = ap (lfsr n p) (iterate_act j d s) ∙ sym (act_T (lfsr n p) lfsr_xor d (iterate (lfsr n p) j s))

  iterate_lt : (j s : ℕ) → s < 2 ^ n → iterate (lfsr n p) j s < 2 ^ n
  unfolding iterate
  iterate_lt zero s h = h
  iterate_lt (suc j) s h = lfsr_lt (iterate (lfsr n p) j s) (iterate_lt j s h)

  -- ---- the characteristic polynomial x^n + p annuls every word

  module _ (pos : 1 ≤ n) (p_lt : p < 2 ^ n) where
    annul_last : (s : ℕ) → s < 2 ^ n → act (lfsr n p) (2 ^ n + p) s % 2 ≡ 0
    annul_last s h =
        ap (λ (x : ℕ). act (lfsr n p) x s % 2) (sym (ap (λ (x : ℕ). bit_xor x p) (sym (one-mul (2 ^ n))) ∙ xor_shifted 1 n p p_lt ∙ ap (λ (x : ℕ). x + p) (one-mul (2 ^ n))))
        ∙ ap (λ (x : ℕ). x % 2) (act_xor (lfsr n p) lfsr_xor (2 ^ n) p s)
        ∙ digit_xor (act (lfsr n p) (2 ^ n) s) (act (lfsr n p) p s)
        ∙ ap₂ bit_xor
        (ap (λ (x : ℕ). x % 2) (act_pow (lfsr n p) lfsr_xor n s) ∙ iterate_top s pos h)
        (act_last n p s (le_refl n) p_lt)
        ∙ xor_self (parity (bit_and s p))

    pub annul : (s : ℕ) → s < 2 ^ n → act (lfsr n p) (2 ^ n + p) s ≡ 0
    annul s h =
        same_bits n (act (lfsr n p) (2 ^ n + p) s) 0 (act_lt (lfsr n p) lfsr_xor n lfsr_lt (2 ^ n + p) s h) (pow_pos n)
        (λ i l. sym (iterate_bit i (act (lfsr n p) (2 ^ n + p) s) l)
        ∙ ap (λ (x : ℕ). x % 2) (iterate_act i (2 ^ n + p) s)
        ∙ annul_last (iterate (lfsr n p) i s) (iterate_lt i s h)
        ∙ sym (bit_of_zero i))

  -- ---- the states

  pub state_is : (s j : ℕ) → state n p s j ≡ iterate (lfsr n p) j s
  unfolding state iterate
  state_is s zero = refl
  state_is s (suc j) = ap (lfsr n p) (state_is s j)

  pub state_add : (s j i : ℕ) → state n p s (j + i) ≡ state n p (state n p s j) i
  unfolding state
  state_add s j zero = ap (state n p s) (add-zero j)
  state_add s j (suc i) = ap (state n p s) (add-suc j i) ∙ ap (lfsr n p) (state_add s j i)
