-- The linear factors x and x + 1: the value at 0 is the last digit, and the value at 1 is the parity.
use Rattle.std.proofs.Common.{◌≡◌, ℕ, zero, suc, ◌+◌, ◌*◌, ◌/◌, ◌%◌, ◌^◌, ◌<◌, ◌≤◌, ◌≢◌, ◌⊎◌, ◌==◌, ◌||◌, Bool, true, inl, inr, refl, sym, ap, ap₂, ◌∙◌, arith, zero-lt-suc, not-suc-le-zero, one-mul, pow-suc, pow_pos, mul-div_cancel}
use Rattle.std.proofs.lemmas.Bool.{eq-eqb, eqb-true, ne_eqb, or_cases}
use Rattle.std.proofs.Math.Nat.{mul-mod_left}
use Rattle.std.proofs.Math.Arith.{bin_ind}
use Rattle.std.specs.Prelude.{count_ones}
use lib.Bits.{bit_xor, xor_shifted}
use Rattle.hashes.specs.Polynomial.{horner_within, horner, degree, reduce, remainder}
use Rattle.hashes.specs.Irreducible.{Irreducible}
use Rattle.hashes.specs.Toeplitz.{parity}
use Rattle.hashes.specs.Bits.{digit_lt, parity_lt, parity_step, parity_xor, parity_zero}
use Rattle.hashes.specs.Divisors.{divides_of_remainder}
use Rattle.hashes.specs.Remainder.{remainder_small}
use Rattle.hashes.specs.Words.{remainder_digit}
use Rattle.hashes.specs.Xor.{digit_cases}

degree_x : degree 2 ≡ 1
unfolding degree horner horner_within
degree_x = refl

degree_x1 : degree 3 ≡ 1
unfolding degree horner horner_within
degree_x1 = refl

-- the remainder by x, and by x + 1, one digit further
step_x : (r d : ℕ) → r < 2 → d < 2 → reduce 1 2 (r * 2 + d) ≡ d
unfolding reduce
step_x r d h k = go (digit_cases h) (digit_cases k)
  where
    go : (r ≡ 0) ⊎ (r ≡ 1) → (d ≡ 0) ⊎ (d ≡ 1) → reduce 1 2 (r * 2 + d) ≡ d
    go (inl a) (inl b) = rw (a, b) refl
    go (inl a) (inr b) = rw (a, b) refl
    go (inr a) (inl b) = rw (a, b) refl
    go (inr a) (inr b) = rw (a, b) refl

step_x1 : (r d : ℕ) → r < 2 → d < 2 → reduce 1 3 (r * 2 + d) ≡ bit_xor d r
unfolding reduce
step_x1 r d h k = go (digit_cases h) (digit_cases k)
  where
    go : (r ≡ 0) ⊎ (r ≡ 1) → (d ≡ 0) ⊎ (d ≡ 1) → reduce 1 3 (r * 2 + d) ≡ bit_xor d r
    go (inl a) (inl b) = rw (a, b) refl
    go (inl a) (inr b) = rw (a, b) refl
    go (inr a) (inl b) = rw (a, b) refl
    go (inr a) (inr b) = rw (a, b) refl

whole : (a : ℕ) → a ≡ a / 2 * 2 + a % 2
whole a = omega arith

-- the value at 0
remainder_x : (a : ℕ) → remainder a 2 ≡ a % 2
remainder_x =
    bin_ind (λ (a : ℕ). remainder a 2 ≡ a % 2) (remainder_small 2 (zero-lt-suc 1) 0 (pow_pos (degree 2)))
    (λ a ih. ap (λ (x : ℕ). remainder x 2) (whole a) ∙ remainder_digit 2 (zero-lt-suc 1) (a / 2) (a % 2) (digit_lt a)
    ∙ ap₂ (λ (n r : ℕ). reduce n 2 (r * 2 + a % 2)) degree_x ih ∙ step_x (a / 2 % 2) (a % 2) (digit_lt (a / 2)) (digit_lt a))

-- the value at 1
remainder_x1 : (a : ℕ) → remainder a 3 ≡ parity a
remainder_x1 =
    bin_ind (λ (a : ℕ). remainder a 3 ≡ parity a) (remainder_small 3 (zero-lt-suc 2) 0 (pow_pos (degree 3)) ∙ sym parity_zero)
    (λ a ih. ap (λ (x : ℕ). remainder x 3) (whole a) ∙ remainder_digit 3 (zero-lt-suc 2) (a / 2) (a % 2) (digit_lt a)
    ∙ ap₂ (λ (n r : ℕ). reduce n 3 (r * 2 + a % 2)) degree_x1 ih ∙ step_x1 (parity (a / 2)) (a % 2) (parity_lt (a / 2)) (digit_lt a) ∙ sym (parity_step a))

-- ---- x^n + w

parity_ones : (a : ℕ) → parity a ≡ count_ones a % 2
unfolding parity
parity_ones a = refl

parity_power : (n : ℕ) → parity (2 ^ n) ≡ 1
parity_power zero = parity_step 1 ∙ ap (bit_xor 1) parity_zero
parity_power (suc n) =
    ap parity (pow-suc 2 n) ∙ parity_step (2 ^ n * 2)
    ∙ ap₂ (λ (d a : ℕ). bit_xor d (parity a)) (mul-mod_left (2 ^ n) 2) (mul-div_cancel (2 ^ n) (zero-lt-suc 1)) ∙ parity_power n

module _ (n w : ℕ) (some : 1 ≤ n) (h : w < 2 ^ n) where
  -- the leading term has the last digit 0, and is one more
  last_word : (2 ^ n + w) % 2 ≡ w % 2
  last_word = go n some
    where
      go : (n : ℕ) → 1 ≤ n → (2 ^ n + w) % 2 ≡ w % 2
      go zero k = absurd (not-suc-le-zero k)
      go (suc n) k = let e : 2 ^ suc n ≡ 2 ^ n * 2 = pow-suc 2 n in omega arith

  parity_word : parity (2 ^ n + w) ≡ bit_xor 1 (count_ones w % 2)
  parity_word =
      ap parity (ap (λ (x : ℕ). x + w) (sym (one-mul (2 ^ n))) ∙ sym (xor_shifted 1 n w h) ∙ ap (λ (x : ℕ). bit_xor x w) (one-mul (2 ^ n)))
      ∙ parity_xor (2 ^ n) w ∙ ap₂ bit_xor (parity_power n) (parity_ones w)

  value_at_0 : remainder (2 ^ n + w) 2 ≡ w % 2
  value_at_0 = remainder_x (2 ^ n + w) ∙ last_word

  value_at_1 : remainder (2 ^ n + w) 3 ≡ bit_xor 1 (count_ones w % 2)
  value_at_1 = remainder_x1 (2 ^ n + w) ∙ parity_word

-- ---- x^64 + p: the test, first of the last digit and then of the parity

flipped : (d : ℕ) → d < 2 → (d == 1) ≡ (bit_xor 1 d == 0)
flipped d h = elim (digit_cases h) [ inl e ↦ rw e refl | inr e ↦ rw e refl ]

pub last_digit_zero : (p : ℕ) → p < 2 ^ 64 → p % 2 ≡ 0 → (p % 2 == 0) ≡ (remainder (2 ^ 64 + p) 2 == 0 || remainder (2 ^ 64 + p) 3 == 0)
last_digit_zero p h e =
    eq-eqb (p % 2) 0 e
    ∙ sym (ap (λ (b : Bool). b || (remainder (2 ^ 64 + p) 3 == 0)) (eq-eqb (remainder (2 ^ 64 + p) 2) 0 (value_at_0 64 p (omega arith) h ∙ e)))

pub last_digit_one : (p : ℕ) → p < 2 ^ 64 → p % 2 ≢ 0 → (count_ones p % 2 == 1) ≡ (remainder (2 ^ 64 + p) 2 == 0 || remainder (2 ^ 64 + p) 3 == 0)
last_digit_one p h odd =
    flipped (count_ones p % 2) (digit_lt (count_ones p)) ∙ ap (λ (x : ℕ). x == 0) (sym (value_at_1 64 p (omega arith) h))
    ∙ sym (ap (λ (b : Bool). b || (remainder (2 ^ 64 + p) 3 == 0)) (ne_eqb (remainder (2 ^ 64 + p) 2) 0 (λ z. odd (sym (value_at_0 64 p (omega arith) h) ∙ z))))

-- with a linear factor, only a linear polynomial is irreducible
pub linear_reducible : (p : ℕ) → 2 ≤ degree p → (remainder p 2 == 0 || remainder p 3 == 0) ≡ true → Irreducible p → ⊥
linear_reducible p more e irr = go (or_cases (remainder p 2 == 0) (remainder p 3 == 0) e)
  where
    go : ((remainder p 2 == 0) ≡ true) ⊎ ((remainder p 3 == 0) ≡ true) → ⊥
    go (inl z) =
        irr.no_divisor 2 (omega (arith, degree_x)) (omega (arith, degree_x)) (divides_of_remainder 2 p (zero-lt-suc 1) (eqb-true (remainder p 2) 0 z))
    go (inr z) =
        irr.no_divisor 3 (omega (arith, degree_x1)) (omega (arith, degree_x1)) (divides_of_remainder 3 p (zero-lt-suc 2) (eqb-true (remainder p 3) 0 z))
