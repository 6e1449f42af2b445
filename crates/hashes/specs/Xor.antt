-- More laws of the bitwise sum.
use Rattle.std.specs.Prelude.{◌≡◌, ℕ, zero, suc, ◌+◌, ◌*◌, ◌/◌, ◌%◌, ◌^◌, ◌<◌, ◌⊎◌, bit_xor, refl}
use Rattle.std.proofs.Common.{sym, ap, ap₂, ◌∙◌, inl, inr, zero-mul, one-mul, add-zero, mod-lt, zero-lt-suc, div-add-mod', le_of_suc-le-suc, not-suc-le-zero, pow_pos}
use Rattle.std.proofs.lemmas.Nat.{xor_comm, xor_shr, xor_mod, xor_block}
use Rattle.std.specs.Int.Bits.{xor_assoc, xor_self, xor_zero_r, xor_shifted}

xor_left_comm : (a b c : ℕ) → bit_xor a (bit_xor b c) ≡ bit_xor b (bit_xor a c)
xor_left_comm a b c = sym (xor_assoc a b c) ∙ ap (λ (x : ℕ). bit_xor x c) (xor_comm a b) ∙ xor_assoc b a c

pub xor_cancel : (a b : ℕ) → bit_xor a (bit_xor a b) ≡ b
xor_cancel a b = sym (xor_assoc a a b) ∙ ap (λ (x : ℕ). bit_xor x b) (xor_self a)

pub xor_cancel_r : (a b : ℕ) → bit_xor (bit_xor a b) b ≡ a
xor_cancel_r a b = xor_assoc a b b ∙ ap (bit_xor a) (xor_self b) ∙ xor_zero_r a

pub xor_swap : (a b c d : ℕ) → bit_xor (bit_xor a b) (bit_xor c d) ≡ bit_xor (bit_xor a c) (bit_xor b d)
xor_swap a b c d = xor_assoc a b (bit_xor c d) ∙ ap (bit_xor a) (xor_left_comm b c d) ∙ sym (xor_assoc a c (bit_xor b d))

-- equal where the sum is zero
pub xor_zero : (a b : ℕ) → bit_xor a b ≡ 0 → a ≡ b
xor_zero a b e = sym (xor_cancel_r a b) ∙ ap (λ (x : ℕ). bit_xor x b) e

pub half_xor : (a b : ℕ) → bit_xor a b / 2 ≡ bit_xor (a / 2) (b / 2)
half_xor a b = xor_shr a b 1

pub digit_xor : (a b : ℕ) → bit_xor a b % 2 ≡ bit_xor (a % 2) (b % 2)
digit_xor a b = xor_mod a b 1

pub xor_shl : (a b k : ℕ) → bit_xor (a * 2 ^ k) (b * 2 ^ k) ≡ bit_xor a b * 2 ^ k
xor_shl a b k =
    ap₂ bit_xor (sym (add-zero (a * 2 ^ k))) (sym (add-zero (b * 2 ^ k))) ∙ xor_block k a b 0 0 (pow_pos k) (pow_pos k)
    ∙ add-zero (bit_xor a b * 2 ^ k)

pub xor_dbl : (a b : ℕ) → bit_xor (a * 2) (b * 2) ≡ bit_xor a b * 2
xor_dbl a b = xor_shl a b 1

pub xor_last : (a d : ℕ) → d < 2 → bit_xor (a * 2) d ≡ a * 2 + d
xor_last a d h = xor_shifted a 1 d h

-- a number by its last digit
pub by_last : (a : ℕ) → bit_xor (a / 2 * 2) (a % 2) ≡ a
by_last a = xor_last (a / 2) (a % 2) (mod-lt a (zero-lt-suc 1)) ∙ div-add-mod' a 2

pub digit_cases : {d : ℕ} → d < 2 → (d ≡ 0) ⊎ (d ≡ 1)
digit_cases {d = zero} h = inl refl
digit_cases {d = suc zero} h = inr refl
digit_cases {d = suc (suc d)} h = absurd (not-suc-le-zero (le_of_suc-le-suc (le_of_suc-le-suc h)))

-- a digit times a sum
pub digit_mul_xor : (d a b : ℕ) → d < 2 → d * bit_xor a b ≡ bit_xor (d * a) (d * b)
digit_mul_xor d a b h = go (digit_cases h)
  where
    go : (d ≡ 0) ⊎ (d ≡ 1) → d * bit_xor a b ≡ bit_xor (d * a) (d * b)
    go (inl e) = rw e (simp zero-mul)
    go (inr e) = rw e (simp one-mul)

pub xor_digit_mul : (d e b : ℕ) → d < 2 → e < 2 → bit_xor d e * b ≡ bit_xor (d * b) (e * b)
xor_digit_mul d e b h k = go (digit_cases h) (digit_cases k)
  where
    go : (d ≡ 0) ⊎ (d ≡ 1) → (e ≡ 0) ⊎ (e ≡ 1) → bit_xor d e * b ≡ bit_xor (d * b) (e * b)
    go (inl p) q = rw p (simp zero-mul)
    go (inr p) (inl q) = rw (p, q) (simp (zero-mul, one-mul, xor_zero_r))
    go (inr p) (inr q) = rw (p, q) (simp (zero-mul, one-mul, xor_self))
