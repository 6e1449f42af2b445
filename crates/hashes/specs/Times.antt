-- The laws of the product: a commutative ring without carries.
use Rattle.std.specs.Prelude.{◌≡◌, ℕ, ◌*◌, ◌/◌, ◌%◌, ◌<◌, ◌⊎◌, bit_xor}
use Rattle.std.proofs.Common.{sym, ap, ap₂, ◌∙◌, inl, inr, zero-mul, one-mul, mul-one, mul-zero, mul_assoc, mod-lt, zero-lt-suc, mul-div_cancel}
use Rattle.std.proofs.Math.Nat.{mul-mod_left}
use Rattle.std.specs.Int.Bits.{xor_zero_r}
use Rattle.std.proofs.Math.Arith.{bin_ind}
use Rattle.hashes.specs.Polynomial.{times}
use Rattle.hashes.specs.Horner.{horner_zero, horner_step}
use Rattle.hashes.specs.Xor.{xor_swap, xor_dbl, half_xor, digit_xor, digit_mul_xor, xor_digit_mul, by_last, digit_cases}

last_lt : (a : ℕ) → a % 2 < 2
last_lt a = mod-lt a (zero-lt-suc 1)

pub times_zero_l : (b : ℕ) → times 0 b ≡ 0
unfolding times
times_zero_l b = horner_zero (λ r d. bit_xor (r * 2) (d * b))

pub times_step : (a b : ℕ) → times a b ≡ bit_xor (times (a / 2) b * 2) (a % 2 * b)
unfolding times
times_step a b = horner_step (λ r d. bit_xor (r * 2) (d * b)) (zero-mul b) a

pub times_zero_r : (a : ℕ) → times a 0 ≡ 0
times_zero_r =
    bin_ind (λ (a : ℕ). times a 0 ≡ 0) (times_zero_l 0)
    (λ a ih. times_step a 0 ∙ ap₂ (λ (x y : ℕ). bit_xor (x * 2) y) ih (mul-zero (a % 2)))

pub times_digit : (d b : ℕ) → d < 2 → times d b ≡ d * b
times_digit d b h = go (digit_cases h)
  where
    go : (d ≡ 0) ⊎ (d ≡ 1) → times d b ≡ d * b
    go (inl e) = rw e (times_zero_l b ∙ sym (zero-mul b))
    go (inr e) = rw e (times_step 1 b ∙ ap (λ (x : ℕ). bit_xor (x * 2) (1 * b)) (times_zero_l b))

pub times_one_l : (b : ℕ) → times 1 b ≡ b
times_one_l b = times_step 1 b ∙ ap₂ (λ (x y : ℕ). bit_xor (x * 2) y) (times_zero_l b) (one-mul b)

pub times_one_r : (a : ℕ) → times a 1 ≡ a
times_one_r =
    bin_ind (λ (a : ℕ). times a 1 ≡ a) (times_zero_l 1)
    (λ a ih. times_step a 1 ∙ ap₂ (λ (x y : ℕ). bit_xor (x * 2) y) ih (mul-one (a % 2)) ∙ by_last a)

pub times_dbl_l : (a b : ℕ) → times (a * 2) b ≡ times a b * 2
times_dbl_l a b =
    times_step (a * 2) b
    ∙ ap₂ (λ (x y : ℕ). bit_xor (times x b * 2) (y * b)) (mul-div_cancel a (zero-lt-suc 1)) (mul-mod_left a 2)
    ∙ ap (bit_xor (times a b * 2)) (zero-mul b) ∙ xor_zero_r (times a b * 2)

pub times_dbl_r : (a b : ℕ) → times a (b * 2) ≡ times a b * 2
times_dbl_r a b =
    bin_ind (λ (a : ℕ). times a (b * 2) ≡ times a b * 2) (times_zero_l (b * 2) ∙ ap (λ (x : ℕ). x * 2) (sym (times_zero_l b)))
    (λ a ih. times_step a (b * 2)
    ∙ ap₂ (λ (x y : ℕ). bit_xor (x * 2) y) ih (sym (mul_assoc (a % 2) b 2))
    ∙ xor_dbl (times (a / 2) b * 2) (a % 2 * b)
    ∙ ap (λ (x : ℕ). x * 2) (sym (times_step a b))) a

pub times_xor_r : (a b c : ℕ) → times a (bit_xor b c) ≡ bit_xor (times a b) (times a c)
times_xor_r a b c =
    bin_ind (λ (a : ℕ). times a (bit_xor b c) ≡ bit_xor (times a b) (times a c))
    (times_zero_l (bit_xor b c) ∙ ap₂ bit_xor (sym (times_zero_l b)) (sym (times_zero_l c)))
    (λ a ih. times_step a (bit_xor b c)
    ∙ ap₂ (λ (x y : ℕ). bit_xor (x * 2) y) ih (digit_mul_xor (a % 2) b c (last_lt a))
    ∙ ap (λ (x : ℕ). bit_xor x (bit_xor (a % 2 * b) (a % 2 * c))) (sym (xor_dbl (times (a / 2) b) (times (a / 2) c)))
    ∙ xor_swap (times (a / 2) b * 2) (times (a / 2) c * 2) (a % 2 * b) (a % 2 * c)
    ∙ ap₂ bit_xor (sym (times_step a b)) (sym (times_step a c))) a

pub times_xor_l : (a b c : ℕ) → times (bit_xor a b) c ≡ bit_xor (times a c) (times b c)
times_xor_l a b c =
    bin_ind (λ (a : ℕ). (b : ℕ) → times (bit_xor a b) c ≡ bit_xor (times a c) (times b c))
    (λ b. ap (λ (x : ℕ). bit_xor x (times b c)) (sym (times_zero_l c)))
    (λ a ih b. times_step (bit_xor a b) c
    ∙ ap₂ (λ (x y : ℕ). bit_xor (times x c * 2) (y * c)) (half_xor a b) (digit_xor a b)
    ∙ ap₂ (λ (x y : ℕ). bit_xor (x * 2) y) (ih (b / 2)) (xor_digit_mul (a % 2) (b % 2) c (last_lt a) (last_lt b))
    ∙ ap (λ (x : ℕ). bit_xor x (bit_xor (a % 2 * c) (b % 2 * c))) (sym (xor_dbl (times (a / 2) c) (times (b / 2) c)))
    ∙ xor_swap (times (a / 2) c * 2) (times (b / 2) c * 2) (a % 2 * c) (b % 2 * c)
    ∙ ap₂ bit_xor (sym (times_step a c)) (sym (times_step b c))) a b

times_digit_r : (b d : ℕ) → d < 2 → times b d ≡ d * b
times_digit_r b d h = go (digit_cases h)
  where
    go : (d ≡ 0) ⊎ (d ≡ 1) → times b d ≡ d * b
    go (inl e) = rw e (times_zero_r b ∙ sym (zero-mul b))
    go (inr e) = rw e (times_one_r b ∙ sym (one-mul b))

pub times_comm : (a b : ℕ) → times a b ≡ times b a
times_comm a b =
    bin_ind (λ (a : ℕ). times a b ≡ times b a) (times_zero_l b ∙ sym (times_zero_r b))
    (λ a ih. times_step a b
    ∙ ap₂ (λ (x y : ℕ). bit_xor x y) (ap (λ (x : ℕ). x * 2) ih ∙ sym (times_dbl_r b (a / 2))) (sym (times_digit_r b (a % 2) (last_lt a)))
    ∙ sym (times_xor_r b (a / 2 * 2) (a % 2))
    ∙ ap (times b) (by_last a)) a

times_scale : (d b c : ℕ) → d < 2 → times (d * b) c ≡ d * times b c
times_scale d b c h = go (digit_cases h)
  where
    go : (d ≡ 0) ⊎ (d ≡ 1) → times (d * b) c ≡ d * times b c
    go (inl e) = rw e (ap (λ (x : ℕ). times x c) (zero-mul b) ∙ times_zero_l c ∙ sym (zero-mul (times b c)))
    go (inr e) = rw e (ap (λ (x : ℕ). times x c) (one-mul b) ∙ sym (one-mul (times b c)))

pub times_assoc : (a b c : ℕ) → times (times a b) c ≡ times a (times b c)
times_assoc a b c =
    bin_ind (λ (a : ℕ). times (times a b) c ≡ times a (times b c))
    (ap (λ (x : ℕ). times x c) (times_zero_l b) ∙ times_zero_l c ∙ sym (times_zero_l (times b c)))
    (λ a ih. ap (λ (x : ℕ). times x c) (times_step a b)
    ∙ times_xor_l (times (a / 2) b * 2) (a % 2 * b) c
    ∙ ap₂ bit_xor (times_dbl_l (times (a / 2) b) c ∙ ap (λ (x : ℕ). x * 2) ih) (times_scale (a % 2) b c (last_lt a))
    ∙ sym (times_step a (times b c))) a
