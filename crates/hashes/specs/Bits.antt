-- Words by their bits.
use Rattle.std.specs.Prelude.{◌≡◌, ℕ, suc, ◌+◌, ◌-◌, ◌*◌, ◌/◌, ◌%◌, ◌^◌, ◌<◌, ◌⊎◌, bit_and, refl}
use Rattle.std.proofs.Common.{sym, ap, ap₂, ◌∙◌, inl, inr, zero-mul, one-mul, mod-lt, zero-lt-suc, div-one, pow-suc, mul_assoc, div-lt_iff_lt-mul, arith, shr-shr, pow-add}
use Rattle.std.proofs.Math.Nat.{zero-div, div-eq_of_lt}
use Rattle.std.proofs.Math.Arith.{bin_ind}
use Rattle.std.proofs.lemmas.Nat.{shl-shr, xor_shr, and_shr, and_mod}
use Rattle.std.proofs.lemmas.Nat.Bits.{same_from_bits_below}
use Rattle.std.specs.Int.Bits.{bit_xor, shifted_even}
use Rattle.std.specs.Int.Count.{ones, ones_step}
use Rattle.hashes.specs.Toeplitz.{bit, parity}
use Rattle.hashes.specs.Xor.{half_xor, digit_xor, digit_cases, xor_swap}

pub digit_lt : (a : ℕ) → a % 2 < 2
digit_lt a = mod-lt a (zero-lt-suc 1)

-- numbers are equal where their last bits are, and what stands above these
by_halves : (a b : ℕ) → a / 2 ≡ b / 2 → a % 2 ≡ b % 2 → a ≡ b
by_halves a b h k = omega arith

-- ---- bit_and

half_and : (a b : ℕ) → bit_and a b / 2 ≡ bit_and (a / 2) (b / 2)
half_and a b = and_shr a b 1

digit_and : (a b : ℕ) → bit_and a b % 2 ≡ bit_and (a % 2) (b % 2)
digit_and a b = and_mod a b 1

and_xor_digit : (x y z : ℕ) → x < 2 → y < 2 → z < 2 → bit_and (bit_xor x y) z ≡ bit_xor (bit_and x z) (bit_and y z)
and_xor_digit x y z hx hy hz = go (digit_cases hx) (digit_cases hy) (digit_cases hz)
  where
    go : (x ≡ 0) ⊎ (x ≡ 1) → (y ≡ 0) ⊎ (y ≡ 1) → (z ≡ 0) ⊎ (z ≡ 1) → bit_and (bit_xor x y) z ≡ bit_xor (bit_and x z) (bit_and y z)
    go (inl a) (inl b) (inl c) = simp (a, b, c)
    go (inl a) (inl b) (inr c) = simp (a, b, c)
    go (inl a) (inr b) (inl c) = simp (a, b, c)
    go (inl a) (inr b) (inr c) = simp (a, b, c)
    go (inr a) (inl b) (inl c) = simp (a, b, c)
    go (inr a) (inl b) (inr c) = simp (a, b, c)
    go (inr a) (inr b) (inl c) = simp (a, b, c)
    go (inr a) (inr b) (inr c) = simp (a, b, c)

pub and_xor : (a b c : ℕ) → bit_and (bit_xor a b) c ≡ bit_xor (bit_and a c) (bit_and b c)
and_xor a b c =
    bin_ind (λ (a : ℕ). (b c : ℕ) → bit_and (bit_xor a b) c ≡ bit_xor (bit_and a c) (bit_and b c)) (λ b c. refl)
    (λ a ih b c. by_halves (bit_and (bit_xor a b) c) (bit_xor (bit_and a c) (bit_and b c))
    (half_and (bit_xor a b) c ∙ ap (λ (x : ℕ). bit_and x (c / 2)) (half_xor a b) ∙ ih (b / 2) (c / 2)
    ∙ sym (half_xor (bit_and a c) (bit_and b c) ∙ ap₂ bit_xor (half_and a c) (half_and b c)))
    (digit_and (bit_xor a b) c ∙ ap (λ (x : ℕ). bit_and x (c % 2)) (digit_xor a b)
    ∙ and_xor_digit (a % 2) (b % 2) (c % 2) (digit_lt a) (digit_lt b) (digit_lt c)
    ∙ sym (digit_xor (bit_and a c) (bit_and b c) ∙ ap₂ bit_xor (digit_and a c) (digit_and b c)))) a b c

-- ---- parity

add_digits : (x y : ℕ) → (x + y) % 2 ≡ bit_xor (x % 2) (y % 2)
add_digits x y = go (digit_cases (digit_lt x)) (digit_cases (digit_lt y))
  where
    go : (x % 2 ≡ 0) ⊎ (x % 2 ≡ 1) → (y % 2 ≡ 0) ⊎ (y % 2 ≡ 1) → (x + y) % 2 ≡ bit_xor (x % 2) (y % 2)
    go (inl a) (inl b) = rw (a, b) (omega arith)
    go (inl a) (inr b) = rw (a, b) (omega arith)
    go (inr a) (inl b) = rw (a, b) (omega arith)
    go (inr a) (inr b) = rw (a, b) (omega arith)

pub parity_zero : parity 0 ≡ 0
unfolding parity ones
parity_zero = refl

pub parity_step : (a : ℕ) → parity a ≡ bit_xor (a % 2) (parity (a / 2))
unfolding parity
parity_step a =
    ap (λ (x : ℕ). x % 2) (ones_step a) ∙ add_digits (a % 2) (ones (a / 2))
    ∙ ap (λ (x : ℕ). bit_xor x (ones (a / 2) % 2)) (omega arith)

pub parity_lt : (a : ℕ) → parity a < 2
unfolding parity
parity_lt a = digit_lt (ones a)

pub parity_xor : (a b : ℕ) → parity (bit_xor a b) ≡ bit_xor (parity a) (parity b)
parity_xor a b =
    bin_ind (λ (a : ℕ). (b : ℕ) → parity (bit_xor a b) ≡ bit_xor (parity a) (parity b))
    (λ b. ap (λ (x : ℕ). bit_xor x (parity b)) (sym parity_zero))
    (λ a ih b. parity_step (bit_xor a b)
    ∙ ap₂ (λ (x y : ℕ). bit_xor x (parity y)) (digit_xor a b) (half_xor a b)
    ∙ ap (bit_xor (bit_xor (a % 2) (b % 2))) (ih (b / 2))
    ∙ xor_swap (a % 2) (b % 2) (parity (a / 2)) (parity (b / 2))
    ∙ sym (ap₂ bit_xor (parity_step a) (parity_step b))) a b

-- ---- bits

pub bit_lt : (a i : ℕ) → bit a i < 2
unfolding bit
bit_lt a i = digit_lt (a / 2 ^ i)

pub bit_zero : (a : ℕ) → bit a 0 ≡ a % 2
unfolding bit
bit_zero a = ap (λ (x : ℕ). x % 2) (div-one a)

pub bit_half : (a i : ℕ) → bit (a / 2) i ≡ bit a (suc i)
unfolding bit
bit_half a i = ap (λ (x : ℕ). x % 2) (shr-shr a 1 i ∙ ap (λ (x : ℕ). a / 2 ^ x) (omega arith))

pub half_lt : (n a : ℕ) → a < 2 ^ suc n → a / 2 < 2 ^ n
half_lt n a h = (div-lt_iff_lt-mul (zero-lt-suc 1)).1 (rw (← pow-suc 2 n) h)

-- words are equal where all their bits are
pub same_bits : (n a b : ℕ) → a < 2 ^ n → b < 2 ^ n → ((i : ℕ) → i < n → bit a i ≡ bit b i) → a ≡ b
unfolding bit
same_bits n a b h k e = same_from_bits_below n a b h k e

-- the parity of the bits that two words share, by their last bits
pub parity_and_step : (a b : ℕ) → parity (bit_and a b) ≡ bit_xor (bit_and (a % 2) (b % 2)) (parity (bit_and (a / 2) (b / 2)))
parity_and_step a b = parity_step (bit_and a b) ∙ ap₂ (λ (x y : ℕ). bit_xor x (parity y)) (digit_and a b) (half_and a b)

-- a bit times a number, in its last bit
pub digit_mul_last : (d a : ℕ) → d < 2 → d * a % 2 ≡ bit_and (a % 2) d
digit_mul_last d a h = go (digit_cases h) (digit_cases (digit_lt a))
  where
    go : (d ≡ 0) ⊎ (d ≡ 1) → (a % 2 ≡ 0) ⊎ (a % 2 ≡ 1) → d * a % 2 ≡ bit_and (a % 2) d
    go (inl e) (inl f) = rw (f, e, zero-mul a)
    go (inl e) (inr f) = rw (f, e, zero-mul a)
    go (inr e) (inl f) = rw (f, e, one-mul a) f
    go (inr e) (inr f) = rw (f, e, one-mul a) f

pub bit_of_zero : (i : ℕ) → bit 0 i ≡ 0
unfolding bit
bit_of_zero i = ap (λ (x : ℕ). x % 2) (zero-div (2 ^ i))

pub bit_of_xor : (a b i : ℕ) → bit (bit_xor a b) i ≡ bit_xor (bit a i) (bit b i)
unfolding bit
bit_of_xor a b i = ap (λ (x : ℕ). x % 2) (xor_shr a b i) ∙ digit_xor (a / 2 ^ i) (b / 2 ^ i)

-- no bit above the word
pub bit_above : (a i : ℕ) → a < 2 ^ i → bit a i ≡ 0
unfolding bit
bit_above a i h = ap (λ (x : ℕ). x % 2) (div-eq_of_lt h)

-- a word moved up: nothing below, its own last bit at the place
pub bit_moved_below : (a n i : ℕ) → i < n → bit (a * 2 ^ n) i ≡ 0
unfolding bit
bit_moved_below a n i h =
    ap (λ (x : ℕ). x % 2)
    (ap (λ (x : ℕ). a * 2 ^ x / 2 ^ i) apart ∙ ap (λ (x : ℕ). a * x / 2 ^ i) (pow-add 2 (suc (n - suc i)) i)
    ∙ ap (λ (x : ℕ). x / 2 ^ i) (sym (mul_assoc a (2 ^ suc (n - suc i)) (2 ^ i))) ∙ shl-shr (a * 2 ^ suc (n - suc i)) i)
    ∙ shifted_even a (n - suc i)
  where
    apart : n ≡ suc (n - suc i) + i
    apart = omega arith

pub bit_moved : (a i : ℕ) → bit (a * 2 ^ i) i ≡ a % 2
unfolding bit
bit_moved a i = ap (λ (x : ℕ). x % 2) (shl-shr a i)
