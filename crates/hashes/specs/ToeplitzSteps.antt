-- The Toeplitz hash one byte at a time, and a byte one bit at a time.
use Rattle.std.specs.Prelude.{◌≡◌, ℕ, zero, suc, ◌+◌, ◌-◌, ◌*◌, ◌/◌, ◌%◌, ◌^◌, ◌<◌, ◌≤◌, List, [], ◌∷◌, ◌++◌, length, fold, bit_and, bit_or, bit_xor, count_ones, refl, ◌≢◌}
use Rattle.std.proofs.Common.{sym, ap, ap₂, ◌∙◌, add-zero, add-suc, suc-add, zero-add, mod-eq_of_lt, one-mul, not-suc-le-zero, sub-one, arith, length-append, shl_lt, inl, inr, zero-mul}
use Rattle.std.proofs.lemmas.Nat.{xor_comm, and_mask}
use Rattle.std.specs.Int.Bits.{xor_assoc, xor_zero_r, xor_shifted, or_shifted_r, shifted_half}
use Rattle.hashes.specs.Toeplitz.{ToeplitzState, bit, parity, lfsr, state, bits, byte_bits, message_bits, chosen, toeplitz, toeplitz_state}
use Rattle.hashes.specs.Xor.{half_xor, digit_cases}
use Rattle.hashes.specs.Bits.{half_lt, parity_lt, digit_lt}
use Rattle.hashes.specs.Lfsr.{state_add}
use Rattle.hashes.specs.ToeplitzMessage.{length_bits}

-- the register's next word, put together from its parts
lfsr_word : (m p s : ℕ) → s < 2 ^ suc m → lfsr (suc m) p s ≡ bit_or (s / 2) (parity (bit_and s p) * 2 ^ m)
unfolding lfsr
lfsr_word m p s h =
    half_xor s (parity (bit_and s p) * 2 ^ suc m) ∙ ap (bit_xor (s / 2)) (shifted_half (parity (bit_and s p)) m)
    ∙ xor_comm (s / 2) (parity (bit_and s p) * 2 ^ m)
    ∙ xor_shifted (parity (bit_and s p)) m (s / 2) (half_lt m s h)
    ∙ sym (or_shifted_r (parity (bit_and s p)) m (s / 2) (half_lt m s h))

-- as the machine puts it together
pub step_word : (m p s : ℕ) → s < 2 ^ suc m → lfsr (suc m) p s ≡ bit_or (s / 2) (count_ones (bit_and s p) % 2 * 2 ^ m % 2 ^ suc m)
unfolding parity
step_word m p s h = lfsr_word m p s h ∙ ap (bit_or (s / 2)) (sym (mod-eq_of_lt (rw one_more at (shl_lt 1 m (parity_lt (bit_and s p))))))
  where
    one_more : 1 + m ≡ suc m
    one_more = omega arith

-- ---- the chosen states, from a later one on

chosen_shift : (n p s j i : ℕ) (ds : List ℕ) → chosen n p s (j + i) ds ≡ chosen n p (state n p s j) i ds
unfolding chosen
chosen_shift n p s j i [] = refl
chosen_shift n p s j i (d ∷ ds) =
    ap₂ (λ (x y : ℕ). bit_xor (d * x) y) (state_add n p s j i) (ap (λ (x : ℕ). chosen n p s x ds) (sym (add-suc j i)) ∙ chosen_shift n p s j (suc i) ds)

chosen_from : (n p s j : ℕ) (ds : List ℕ) → chosen n p s j ds ≡ chosen n p (state n p s j) 0 ds
chosen_from n p s j ds = ap (λ (x : ℕ). chosen n p s x ds) (sym (add-zero j)) ∙ chosen_shift n p s j 0 ds

chosen_append : (n p s j : ℕ) (xs ys : List ℕ) → chosen n p s j (xs ++ ys) ≡ bit_xor (chosen n p s j xs) (chosen n p s (j + length xs) ys)
unfolding chosen
chosen_append n p s j [] ys = ap (λ (x : ℕ). chosen n p s x ys) (sym (add-zero j))
chosen_append n p s j (x ∷ xs) ys =
    ap (bit_xor (x * state n p s j))
    (chosen_append n p s (suc j) xs ys
    ∙ ap (λ (k : ℕ). bit_xor (chosen n p s (suc j) xs) (chosen n p s k ys)) (suc-add j (length xs) ∙ sym (add-suc j (length xs))))
    ∙ sym (xor_assoc (x * state n p s j) (chosen n p s (suc j) xs) (chosen n p s (j + suc (length xs)) ys))

length_byte_bits : (m : List ℕ) → length (byte_bits m) ≡ 8 * length m
unfolding byte_bits
length_byte_bits [] = refl
length_byte_bits (b ∷ m) = length-append (bits 8 b) (byte_bits m) ∙ ap₂ ◌+◌ (length_bits 8 b) (length_byte_bits m) ∙ omega arith

-- the closing one chooses the register after the last byte
pub toeplitz_close : (n p s : ℕ) (m : List ℕ) → toeplitz n p s m ≡ bit_xor (chosen n p s 0 (byte_bits m)) (state n p s (8 * length m))
unfolding toeplitz message_bits chosen
toeplitz_close n p s m =
    chosen_append n p s 0 (byte_bits m) (1 ∷ [])
    ∙ ap (bit_xor (chosen n p s 0 (byte_bits m)))
    (ap (λ (x : ℕ). chosen n p s x (1 ∷ [])) (zero-add (length (byte_bits m)) ∙ length_byte_bits m) ∙ last (8 * length m))
  where
    last : (j : ℕ) → chosen n p s j (1 ∷ []) ≡ state n p s j
    last j = ap (λ (x : ℕ). bit_xor x 0) (one-mul (state n p s j)) ∙ xor_zero_r (state n p s j)

-- ---- one byte, bit by bit: i bits are left

state_inner : (n p s j : ℕ) → state n p (lfsr n p s) j ≡ state n p s (suc j)
unfolding state
state_inner n p s zero = refl
state_inner n p s (suc j) = ap (lfsr n p) (state_inner n p s j)

chosen_one : (n p w : ℕ) (d : ℕ) (ds : List ℕ) → chosen n p w 0 (d ∷ ds) ≡ bit_xor (d * w) (chosen n p (lfsr n p w) 0 ds)
unfolding chosen state
chosen_one n p w d ds = ap (bit_xor (d * w)) (chosen_from n p w 1 ds)

-- the test of one bit
pub bit_set : (a w b k : ℕ) → bit_and (b / 2 ^ k) 1 ≡ 1 → bit_xor a w ≡ bit_xor a (bit b k * w)
unfolding bit
bit_set a w b k h = ap (bit_xor a) (sym (ap (λ (x : ℕ). x * w) (sym (and_mask (b / 2 ^ k) 1) ∙ h) ∙ one-mul w))

pub bit_clear : (a w b k : ℕ) → (bit_and (b / 2 ^ k) 1 ≢ 1) → a ≡ bit_xor a (bit b k * w)
unfolding bit
bit_clear a w b k h = sym (ap (bit_xor a) (ap (λ (x : ℕ). x * w) clear ∙ zero-mul w) ∙ xor_zero_r a)
  where
    clear : b / 2 ^ k % 2 ≡ 0
    clear = elim (digit_cases (digit_lt (b / 2 ^ k))) [ inl e ↦ e | inr e ↦ absurd (h (and_mask (b / 2 ^ k) 1 ∙ e)) ]

run_again : (n p w w' a a' b i X Y : ℕ) → 0 < i → w' ≡ lfsr n p w → a' ≡ bit_xor a (bit b (i - 1) * w)
    → (state n p w i ≡ X) × (bit_xor a (chosen n p w 0 (bits i b)) ≡ Y)
    → (state n p w' (i - 1) ≡ X) × (bit_xor a' (chosen n p w' 0 (bits (i - 1) b)) ≡ Y)
unfolding bits
run_again n p w w' a a' b zero X Y pos e f h = absurd (not-suc-le-zero pos)
run_again n p w w' a a' b (suc i) X Y pos e f h = rw (sub-one (suc i)) (states, sums)
  where
    states : state n p w' i ≡ X
    states = ap (λ (x : ℕ). state n p x i) e ∙ state_inner n p w i ∙ h.0

    sums : bit_xor a' (chosen n p w' 0 (bits i b)) ≡ Y
    sums =
        ap₂ bit_xor (f ∙ ap (λ (x : ℕ). bit_xor a (bit b x * w)) (sub-one (suc i))) (ap (λ (x : ℕ). chosen n p x 0 (bits i b)) e)
        ∙ xor_assoc a (bit b i * w) (chosen n p (lfsr n p w) 0 (bits i b))
        ∙ ap (bit_xor a) (sym (chosen_one n p w (bit b i) (bits i b)))
        ∙ h.1

run_done : (n p w a b i X Y : ℕ) → i ≤ 0 → (state n p w i ≡ X) × (bit_xor a (chosen n p w 0 (bits i b)) ≡ Y) → (w ≡ X) × (a ≡ Y)
unfolding state chosen bits
run_done n p w a b zero X Y l h = (h.0, sym (xor_zero_r a) ∙ h.1)
run_done n p w a b (suc i) X Y l h = absurd (not-suc-le-zero l)

-- ---- no bit

pub state_none : (n p s : ℕ) → s ≡ state n p s 0
unfolding state
state_none n p s = refl

pub chosen_none : (n p s t : ℕ) → t ≡ bit_xor t (chosen n p s 0 (byte_bits []))
unfolding chosen byte_bits
chosen_none n p s t = sym (xor_zero_r t)

-- ---- a byte

-- the state after the i lowest bits of a byte, the highest of them first
abbrev pub after_bits : ℕ → ToeplitzState → ℕ → ℕ → ToeplitzState
after_bits n r i b = toeplitz_state r.taps (state n r.taps r.register i) (bit_xor r.total (chosen n r.taps r.register 0 (bits i b)))

-- the first of them: where it is one, it chooses the register
pub after_first_bit : (n : ℕ) (r : ToeplitzState) (b i : ℕ) → 0 < i
    → after_bits n (toeplitz_state r.taps (lfsr n r.taps r.register) (bit_xor r.total (bit_and (b / 2 ^ (i - 1)) 1 * r.register))) (i - 1) b ≡ after_bits n r i b
unfolding bit
after_first_bit n r b i pos =
    let first = ap (λ (x : ℕ). bit_xor r.total (x * r.register)) (and_mask (b / 2 ^ (i - 1)) 1) in
    let h = run_again n r.taps r.register _ r.total _ b i _ _ pos refl first (refl, refl) in
    ap₂ (toeplitz_state r.taps) h.0 h.1

pub after_no_bits : (n : ℕ) (r : ToeplitzState) (b i : ℕ) → i ≤ 0 → after_bits n r i b ≡ r
after_no_bits n r b i none = let h = run_done n r.taps r.register r.total b i _ _ none (refl, refl) in sym (ap₂ (toeplitz_state r.taps) h.0 h.1)

-- ---- byte after byte

pub register_after : (n : ℕ) (m : List ℕ) (r : ToeplitzState) → (fold (λ r b. after_bits n r 8 b) r m).register ≡ state n r.taps r.register (8 * length m)
unfolding state
register_after n [] r = refl
register_after n (b ∷ m) r =
    register_after n m (after_bits n r 8 b) ∙ sym (state_add n r.taps r.register 8 (8 * length m)) ∙ ap (state n r.taps r.register) more
  where
    more : 8 + 8 * length m ≡ 8 * suc (length m)
    more = omega arith

pub total_after : (n : ℕ) (m : List ℕ) (r : ToeplitzState)
    → (fold (λ r b. after_bits n r 8 b) r m).total ≡ bit_xor r.total (chosen n r.taps r.register 0 (byte_bits m))
unfolding chosen byte_bits
total_after n [] r = sym (xor_zero_r r.total)
total_after n (b ∷ m) r =
    total_after n m (after_bits n r 8 b)
    ∙ xor_assoc r.total (chosen n r.taps r.register 0 (bits 8 b)) (chosen n r.taps (state n r.taps r.register 8) 0 (byte_bits m))
    ∙ ap (bit_xor r.total)
    (ap (bit_xor (chosen n r.taps r.register 0 (bits 8 b))) (sym (chosen_from n r.taps r.register 8 (byte_bits m)))
    ∙ ap (λ (x : ℕ). bit_xor (chosen n r.taps r.register 0 (bits 8 b)) (chosen n r.taps r.register x (byte_bits m))) (sym place)
    ∙ sym (chosen_append n r.taps r.register 0 (bits 8 b) (byte_bits m)))
  where
    place : 0 + length (bits 8 b) ≡ 8
    place = zero-add (length (bits 8 b)) ∙ length_bits 8 b
