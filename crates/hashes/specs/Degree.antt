-- The leading term. `a / 2 ^ n ≡ 1` says that x^n is a's leading term.
use Rattle.std.specs.Prelude.{◌≡◌, ℕ, zero, suc, ◌+◌, ◌*◌, ◌/◌, ◌%◌, ◌^◌, ◌<◌, ◌≤◌, ◌⊎◌, bit_xor}
use Rattle.std.proofs.Common.{sym, ap, ap₂, ◌∙◌, subst, inl, inr, one-mul, zero-add, suc-add, mul_comm, mod-lt, zero-lt-suc, le-div_iff_mul-le, div-lt_iff_lt-mul, pow-suc, le_of_eq, le_trans, lt_of_lt_of_le, lt_of_le_of_lt, not-le_of_lt, div-one, mul-le-mul_right, eq-zero-or-pos, le_antisymm, lt_irrefl, mul-div_cancel, arith, pow_pos, pow_mono, shr-shr}
use Rattle.std.proofs.Math.Nat.{div-eq_of_lt}
use Rattle.std.proofs.Math.Decide.{dec_lt}
use Rattle.std.proofs.lemmas.Nat.{xor_shr}
use Rattle.std.proofs.Math.Arith.{bin_ind}
use Rattle.hashes.specs.Polynomial.{horner, times, degree}
use Rattle.hashes.specs.Horner.{horner_zero, horner_suc}
use Rattle.hashes.specs.Times.{times_step, times_one_l}

-- ---- the leading term, against powers of two

pub lead_low : (a n : ℕ) → a / 2 ^ n ≡ 1 → 2 ^ n ≤ a
lead_low a n e = subst (λ (x : ℕ). x ≤ a) (one-mul (2 ^ n)) ((le-div_iff_mul-le (pow_pos n)).0 (le_of_eq (sym e)))

pub lead_high : (a n : ℕ) → a / 2 ^ n ≡ 1 → a < 2 ^ suc n
lead_high a n e = rw (pow-suc 2 n, mul_comm (2 ^ n) 2) ((div-lt_iff_lt-mul (pow_pos n)).0 (le_of_eq (ap suc e)))

lead_pos : (a n : ℕ) → a / 2 ^ n ≡ 1 → 0 < a
lead_pos a n e = lt_of_lt_of_le (pow_pos n) (lead_low a n e)

pub lead_intro : (a n : ℕ) → 2 ^ n ≤ a → a < 2 ^ suc n → a / 2 ^ n ≡ 1
lead_intro a n l h =
    le_antisymm
    (let k : a / 2 ^ n < 2 = (div-lt_iff_lt-mul (pow_pos n)).1 (rw (mul_comm 2 (2 ^ n), ← pow-suc 2 n) h) in omega arith)
    ((le-div_iff_mul-le (pow_pos n)).1 (rw (one-mul (2 ^ n)) l))

below : (a m n : ℕ) → a / 2 ^ m ≡ 1 → a / 2 ^ n ≡ 1 → n ≤ m
below a m n e f = go (dec_lt m n)
  where
    go : Dec (m < n) → n ≤ m
    go (yes h) = absurd (not-le_of_lt (lead_high a m e) (le_trans (pow_mono h) (lead_low a n f)))
    go (no h) = omega arith

pub lead_unique : (a m n : ℕ) → a / 2 ^ m ≡ 1 → a / 2 ^ n ≡ 1 → m ≡ n
lead_unique a m n e f = le_antisymm (below a n m f e) (below a m n e f)

-- ---- the degree is that of the leading term

pub degree_one : degree 1 ≡ 0
unfolding degree
degree_one = horner_zero (λ n d. suc n)

pub degree_zero : degree 0 ≡ 0
unfolding degree
degree_zero = horner_zero (λ n d. suc n)

pub degree_half : (a : ℕ) → 0 < a / 2 → degree a ≡ suc (degree (a / 2))
unfolding degree
degree_half a h = go (a / 2) h
  where
    go : (b : ℕ) → 0 < b → horner (λ n d. suc n) b ≡ suc (horner (λ n d. suc n) (b / 2))
    go zero h = absurd (lt_irrefl 0 h)
    go (suc b) h = horner_suc (λ n d. suc n) b

pub degree_lead : (a : ℕ) → 0 < a → a / 2 ^ degree a ≡ 1
degree_lead =
    bin_ind (λ (a : ℕ). 0 < a → a / 2 ^ degree a ≡ 1) (λ h. absurd (lt_irrefl 0 h))
    (λ a ih h. step a ih h (eq-zero-or-pos (a / 2)))
  where
    step : (a : ℕ) → (0 < a / 2 → a / 2 / 2 ^ degree (a / 2) ≡ 1) → 0 < a → (a / 2 ≡ 0) ⊎ (0 < a / 2) → a / 2 ^ degree a ≡ 1
    step a ih h (inl e) = let k : a ≡ 1 = omega arith in rw (k, degree_one)
    step a ih h (inr k) = rw (degree_half a k, ← (one_plus (degree (a / 2))), ← shr-shr) (ih k)
      where
        one_plus : (n : ℕ) → 1 + n ≡ suc n
        one_plus n = omega arith

pub degree_is : (a n : ℕ) → a / 2 ^ n ≡ 1 → degree a ≡ n
degree_is a n e = lead_unique a (degree a) n (degree_lead a (lead_pos a n e)) e

-- ---- sums and products

-- two polynomials with one leading term: it cancels
pub xor_cancels : (a b n : ℕ) → a / 2 ^ n ≡ 1 → b / 2 ^ n ≡ 1 → bit_xor a b < 2 ^ n
xor_cancels a b n e f = rw (one-mul (2 ^ n)) at ((div-lt_iff_lt-mul (pow_pos n)).0 (le_of_eq (ap suc (xor_shr a b n ∙ ap₂ bit_xor e f))))

digit_mul_le : (d b : ℕ) → d < 2 → d * b ≤ b
digit_mul_le d b h = subst (λ (x : ℕ). d * b ≤ x) (one-mul b) (mul-le-mul_right b (omega arith))

pub lead_times : (m a b n : ℕ) → a / 2 ^ m ≡ 1 → b / 2 ^ n ≡ 1 → times a b / 2 ^ (m + n) ≡ 1
lead_times zero a b n e f =
    let k : a ≡ 1 = sym (div-one a) ∙ e in
    rw (k, times_one_l, zero-add n) f
lead_times (suc m) a b n e f =
    ap (λ (x : ℕ). x / 2 ^ (suc m + n)) (times_step a b)
    ∙ xor_shr (times (a / 2) b * 2) (a % 2 * b) (suc m + n)
    ∙ ap₂ bit_xor (high (lead_times m (a / 2) b n halved f)) (div-eq_of_lt low)
  where
    one_plus : (k : ℕ) → suc k ≡ 1 + k
    one_plus k = omega arith

    halved : a / 2 / 2 ^ m ≡ 1
    halved = shr-shr a 1 m ∙ ap (λ (x : ℕ). a / 2 ^ x) (sym (one_plus m)) ∙ e

    high : times (a / 2) b / 2 ^ (m + n) ≡ 1 → times (a / 2) b * 2 / 2 ^ (suc m + n) ≡ 1
    high ih =
        ap (λ (x : ℕ). times (a / 2) b * 2 / 2 ^ x) (suc-add m n ∙ one_plus (m + n))
        ∙ sym (shr-shr (times (a / 2) b * 2) 1 (m + n))
        ∙ ap (λ (x : ℕ). x / 2 ^ (m + n)) (mul-div_cancel (times (a / 2) b) (zero-lt-suc 1))
        ∙ ih

    low : a % 2 * b < 2 ^ (suc m + n)
    low =
        lt_of_le_of_lt (digit_mul_le (a % 2) b (mod-lt a (zero-lt-suc 1)))
        (lt_of_lt_of_le (lead_high b n f) (pow_mono (omega arith)))

pub degree_times : (a b : ℕ) → 0 < a → 0 < b → degree (times a b) ≡ degree a + degree b
degree_times a b h k =
    degree_is (times a b) (degree a + degree b) (lead_times (degree a) a b (degree b) (degree_lead a h) (degree_lead b k))

times_pos : (a b : ℕ) → 0 < a → 0 < b → 0 < times a b
times_pos a b h k = lead_pos (times a b) (degree a + degree b) (lead_times (degree a) a b (degree b) (degree_lead a h) (degree_lead b k))

-- there are no zero divisors
pub times_zero : (a b : ℕ) → times a b ≡ 0 → (a ≡ 0) ⊎ (b ≡ 0)
times_zero a b e = go (eq-zero-or-pos a) (eq-zero-or-pos b)
  where
    go : (a ≡ 0) ⊎ (0 < a) → (b ≡ 0) ⊎ (0 < b) → (a ≡ 0) ⊎ (b ≡ 0)
    go (inl h) k = inl h
    go (inr h) (inl k) = inr k
    go (inr h) (inr k) = absurd (lt_irrefl 0 (subst (λ (x : ℕ). 0 < x) e (times_pos a b h k)))

-- ---- degrees and powers of two

pub degree_lt : (n a : ℕ) → 0 < n → a < 2 ^ n → degree a < n
degree_lt n a pos h = go (eq-zero-or-pos a) (dec_lt (degree a) n)
  where
    go : (a ≡ 0) ⊎ (0 < a) → Dec (degree a < n) → degree a < n
    go (inl z) d = rw (z, degree_zero) pos
    go (inr k) (yes l) = l
    go (inr k) (no l) = absurd (not-le_of_lt h (le_trans (pow_mono (omega arith)) (lead_low a (degree a) (degree_lead a k))))

pub lt_degree : (n a : ℕ) → degree a < n → a < 2 ^ n
lt_degree n a h = go (eq-zero-or-pos a)
  where
    go : (a ≡ 0) ⊎ (0 < a) → a < 2 ^ n
    go (inl z) = rw z (pow_pos n)
    go (inr k) = lt_of_lt_of_le (lead_high a (degree a) (degree_lead a k)) (pow_mono h)
