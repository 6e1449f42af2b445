-- The message's bits as a polynomial, M_j at x^j: its leading term is x^(8L), and different messages have different ones.
use Rattle.std.specs.Prelude.{◌≡◌, ℕ, zero, suc, ◌+◌, ◌*◌, ◌/◌, ◌%◌, ◌^◌, ◌<◌, ◌≤◌, ◌≢◌, ◌⊎◌, List, [], ◌∷◌, ◌++◌, length, bit_xor, refl}
use Rattle.std.proofs.Common.{sym, ap, ap₂, ◌∙◌, subst, inl, inr, append_assoc, zero-le, suc-le-suc, pow-suc, mul_assoc, mod-eq_of_lt, eq-zero-or-pos, lt_of_lt_of_le, le_trans, not-le_of_lt, add-zero, mul-one, arith, pow_pos, pow_mono, shr-shr}
use Rattle.std.proofs.Math.Nat.{mod-one}
use Rattle.std.proofs.Math.Decide.{dec_le}
use Rattle.std.proofs.Math.Arith.{digits_lt, digits_div, digits_mod}
use Rattle.std.proofs.lemmas.Nat.{mod-pow-add, xor_lt, xor_comm}
use Rattle.std.specs.List.{AllByRecursion}
use Rattle.hashes.specs.Polynomial.{degree}
use Rattle.hashes.specs.Word.{Bytes}
use Rattle.hashes.specs.Toeplitz.{bit, bits, byte_bits, message_bits, chosen, toeplitz, lfsr, state}
use Rattle.hashes.specs.Xor.{xor_zero}
use Rattle.hashes.specs.Degree.{lead_low, lead_high, degree_lead}
use Rattle.hashes.specs.Bits.{bit_lt}
use Rattle.hashes.specs.Act.{act, act_low, act_zero_l}
use Rattle.hashes.specs.Lfsr.{lfsr_xor}

-- the polynomial whose coefficients are the bits of a list, that at x^0 first
unfoldable pub from_bits : List ℕ → ℕ
from_bits [] = 0
from_bits (d ∷ ds) = from_bits ds * 2 + d

unfoldable pub bit_polynomial : List ℕ → ℕ
bit_polynomial m = from_bits (message_bits m)

-- ---- lists of bits

bits_digits : (k a : ℕ) → AllByRecursion (λ d. d < 2) (bits k a)
unfolding bits
bits_digits zero a = tt
bits_digits (suc k) a = (bit_lt a k, bits_digits k a)

pub length_bits : (k a : ℕ) → length (bits k a) ≡ k
unfolding bits
length_bits zero a = refl
length_bits (suc k) a = ap suc (length_bits k a)

all_append : (xs ys : List ℕ) → AllByRecursion (λ d. d < 2) xs → AllByRecursion (λ d. d < 2) ys → AllByRecursion (λ d. d < 2) (xs ++ ys)
all_append [] ys h k = k
all_append (x ∷ xs) ys h k = (h.0, all_append xs ys h.1 k)

byte_digits : (m : List ℕ) → AllByRecursion (λ d. d < 2) (byte_bits m)
unfolding byte_bits
byte_digits [] = tt
byte_digits (b ∷ m) = all_append (bits 8 b) (byte_bits m) (bits_digits 8 b) (byte_digits m)

message_digits : (m : List ℕ) → AllByRecursion (λ d. d < 2) (message_bits m)
unfolding message_bits
message_digits m = all_append (byte_bits m) (1 ∷ []) (byte_digits m) (suc-le-suc (suc-le-suc zero-le), tt)

from_bits_lt : (ds : List ℕ) → AllByRecursion (λ d. d < 2) ds → from_bits ds < 2 ^ length ds
unfolding from_bits
from_bits_lt [] h = suc-le-suc zero-le
from_bits_lt (d ∷ ds) h = rw (pow-suc 2 (length ds)) (digits_lt (from_bits_lt ds h.1) h.0)

from_bits_append : (xs ys : List ℕ) → from_bits (xs ++ ys) ≡ from_bits ys * 2 ^ length xs + from_bits xs
unfolding from_bits
from_bits_append [] ys = sym (add-zero (from_bits ys * 1) ∙ mul-one (from_bits ys))
from_bits_append (x ∷ xs) ys =
    ap (λ (v : ℕ). v * 2 + x) (from_bits_append xs ys)
    ∙ regroup (from_bits ys) (2 ^ length xs) (from_bits xs)
    ∙ ap (λ (v : ℕ). from_bits ys * v + (from_bits xs * 2 + x)) (sym (pow-suc 2 (length xs)))
  where
    regroup : (a b c : ℕ) → (a * b + c) * 2 + x ≡ a * (b * 2) + (c * 2 + x)
    regroup a b c = rw (← mul_assoc a b 2) (omega arith)

-- a number is determined by its lowest bits
bits_injective : (k a b : ℕ) → from_bits (bits k a) ≡ from_bits (bits k b) → a % 2 ^ k ≡ b % 2 ^ k
unfolding bits from_bits bit
bits_injective zero a b e = mod-one a ∙ sym (mod-one b)
bits_injective (suc k) a b e =
    let (low, top) = parts (from_bits (bits k a)) (from_bits (bits k b)) (bit a k) (bit b k) (bit_lt a k) (bit_lt b k) e in
    split a ∙ ap₂ (λ (x y : ℕ). x * 2 ^ k + y) top (bits_injective k a b low) ∙ sym (split b)
  where
    parts : (x y c d : ℕ) → c < 2 → d < 2 → x * 2 + c ≡ y * 2 + d → (x ≡ y) × (c ≡ d)
    parts x y c d h k e = omega arith

    split : (a : ℕ) → a % 2 ^ suc k ≡ bit a k * 2 ^ k + a % 2 ^ k
    split a = ap (λ (x : ℕ). a % 2 ^ x) one_more ∙ mod-pow-add a 1 k
      where
        one_more : suc k ≡ 1 + k
        one_more = omega arith

-- ---- the polynomial

polynomial_nil : bit_polynomial [] ≡ 1
unfolding bit_polynomial message_bits byte_bits from_bits
polynomial_nil = refl

polynomial_cons : (b : ℕ) (m : List ℕ) → bit_polynomial (b ∷ m) ≡ bit_polynomial m * 2 ^ 8 + from_bits (bits 8 b)
unfolding bit_polynomial message_bits byte_bits
polynomial_cons b m =
    ap from_bits (append_assoc (bits 8 b) (byte_bits m) (1 ∷ [])) ∙ from_bits_append (bits 8 b) (message_bits m)
    ∙ ap (λ (x : ℕ). from_bits (message_bits m) * 2 ^ x + from_bits (bits 8 b)) (length_bits 8 b)

byte_lt : (b : ℕ) → from_bits (bits 8 b) < 2 ^ 8
byte_lt b = subst (λ (x : ℕ). from_bits (bits 8 b) < 2 ^ x) (length_bits 8 b) (from_bits_lt (bits 8 b) (bits_digits 8 b))

-- the leading term is x^(8L)
polynomial_lead : (m : List ℕ) → bit_polynomial m / 2 ^ (8 * length m) ≡ 1
polynomial_lead [] = ap (λ (x : ℕ). x / 2 ^ (8 * 0)) polynomial_nil
polynomial_lead (b ∷ m) =
    ap₂ (λ (x y : ℕ). x / 2 ^ y) (polynomial_cons b m) more
    ∙ sym (shr-shr (bit_polynomial m * 2 ^ 8 + from_bits (bits 8 b)) 8 (8 * length m))
    ∙ ap (λ (x : ℕ). x / 2 ^ (8 * length m)) (digits_div (bit_polynomial m) (byte_lt b))
    ∙ polynomial_lead m
  where
    more : 8 * suc (length m) ≡ 8 + 8 * length m
    more = omega arith

polynomial_pos : (m : List ℕ) → 0 < bit_polynomial m
polynomial_pos m = lt_of_lt_of_le (pow_pos (8 * length m)) (lead_low (bit_polynomial m) (8 * length m) (polynomial_lead m))

-- different messages have different polynomials
polynomial_injective : (a b : List ℕ) → Bytes a → Bytes b → bit_polynomial a ≡ bit_polynomial b → a ≡ b
polynomial_injective [] [] h k e = refl
polynomial_injective [] (y ∷ b) h k e =
    absurd (never (bit_polynomial b) (from_bits (bits 8 y)) (polynomial_pos b) (sym polynomial_nil ∙ e ∙ polynomial_cons y b))
  where
    never : (x r : ℕ) → 0 < x → 1 ≢ x * 256 + r
    never x r h e = omega arith
polynomial_injective (x ∷ a) [] h k e =
    absurd (never (bit_polynomial a) (from_bits (bits 8 x)) (polynomial_pos a) (sym polynomial_nil ∙ sym e ∙ polynomial_cons x a))
  where
    never : (x r : ℕ) → 0 < x → 1 ≢ x * 256 + r
    never x r h e = omega arith
polynomial_injective (x ∷ a) (y ∷ b) h k e =
    let (rest, first) =
    parts (bit_polynomial a) (bit_polynomial b) (from_bits (bits 8 x)) (from_bits (bits 8 y)) (byte_lt x) (byte_lt y)
    (sym (polynomial_cons x a) ∙ e ∙ polynomial_cons y b) in
    ap₂ ◌∷◌ (sym (mod-eq_of_lt h.0) ∙ bits_injective 8 x y first ∙ mod-eq_of_lt k.0) (polynomial_injective a b h.1 k.1 rest)
  where
    parts : (x y c d : ℕ) → c < 256 → d < 256 → x * 256 + c ≡ y * 256 + d → (x ≡ y) × (c ≡ d)
    parts x y c d h k e = omega arith

degree_below : (a k : ℕ) → 0 < a → a < 2 ^ suc k → degree a ≤ k
degree_below a k pos h = go (dec_le (suc k) (degree a))
  where
    go : Dec (suc k ≤ degree a) → degree a ≤ k
    go (yes l) = absurd (not-le_of_lt h (le_trans (pow_mono l) (lead_low a (degree a) (degree_lead a pos))))
    go (no l) = omega arith

-- the difference of two different messages of at most L bytes
module _ (a b : List ℕ) (L : ℕ) (a_bytes : Bytes a) (b_bytes : Bytes b) (differ : a ≢ b) (a_le : length a ≤ L) (b_le : length b ≤ L) where
  pub difference_pos : 0 < bit_xor (bit_polynomial a) (bit_polynomial b)
  difference_pos = go (eq-zero-or-pos (bit_xor (bit_polynomial a) (bit_polynomial b)))
    where
      go : (bit_xor (bit_polynomial a) (bit_polynomial b) ≡ 0) ⊎ (0 < bit_xor (bit_polynomial a) (bit_polynomial b)) → 0 < bit_xor (bit_polynomial a) (bit_polynomial b)
      go (inl e) = absurd (differ (polynomial_injective a b a_bytes b_bytes (xor_zero (bit_polynomial a) (bit_polynomial b) e)))
      go (inr h) = h

  pub difference_degree : degree (bit_xor (bit_polynomial a) (bit_polynomial b)) ≤ 8 * L
  difference_degree =
      degree_below (bit_xor (bit_polynomial a) (bit_polynomial b)) (8 * L) difference_pos
      (xor_lt (suc (8 * L)) (bit_polynomial a) (bit_polynomial b) (small a a_le) (small b b_le))
    where
      small : (m : List ℕ) → length m ≤ L → bit_polynomial m < 2 ^ suc (8 * L)
      small m l = lt_of_lt_of_le (lead_high (bit_polynomial m) (8 * length m) (polynomial_lead m)) (pow_mono (omega arith))

-- ---- the hash is the polynomial of the register, at the first state

chosen_is : (n p s j : ℕ) (ds : List ℕ) → AllByRecursion (λ d. d < 2) ds → chosen n p s j ds ≡ act (lfsr n p) (from_bits ds) (state n p s j)
unfolding chosen from_bits state
chosen_is n p s j [] h = sym (act_zero_l (lfsr n p) (state n p s j))
chosen_is n p s j (d ∷ ds) h =
    ap (bit_xor (d * state n p s j)) (chosen_is n p s (suc j) ds h.1)
    ∙ xor_comm (d * state n p s j) (act (lfsr n p) (from_bits ds) (lfsr n p (state n p s j)))
    ∙ sym (act_low (lfsr n p) (lfsr_xor n p) (from_bits ds * 2 + d) (state n p s j)
    ∙ ap₂ (λ (x y : ℕ). bit_xor (act (lfsr n p) x (lfsr n p (state n p s j))) (y * state n p s j)) (digits_div (from_bits ds) h.0) (digits_mod (from_bits ds) h.0))

pub toeplitz_is : (n p s : ℕ) (m : List ℕ) → toeplitz n p s m ≡ act (lfsr n p) (bit_polynomial m) s
unfolding toeplitz bit_polynomial state
toeplitz_is n p s m = chosen_is n p s 0 (message_bits m) (message_digits m)
