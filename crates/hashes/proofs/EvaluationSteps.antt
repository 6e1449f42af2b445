-- The evaluation hash's steps: a product by half bytes, and the bytes of a part.
use Rattle.std.proofs.Common.{◌≡◌, ℕ, zero, suc, ◌+◌, ◌*◌, ◌/◌, ◌%◌, ◌^◌, ◌<◌, ◌≢◌, Bool, true, false, cond, eqb, List, [], ◌∷◌, ◌++◌, length, get_or, set, sym, refl, ap, ◌∙◌, ap₂, append_assoc, append-nil, mod-lt, mul_comm, mul_right_comm, zero-add, arith, length-append, pow_pos, get_or-set_other, get_or-set_same, below_more}
use native.Mathlib.Decide.{ℕ_discrete}
use native.Mathlib.Nat.{div-div-eq-div-mul, mod-one}
use lib.Bits.{bit_xor, xor_shifted}
use Rattle.std.proofs.lemmas.Nat.{xor_lt}
use Rattle.hashes.specs.Division.{division}
use Rattle.hashes.specs.Evaluation.{evaluation_state, evaluation_family, evaluation_next, lower_halves, modulus, with_word}
use Rattle.hashes.specs.Family.{absorbed}
use Rattle.hashes.specs.Polynomial.{degree, remainder, times, times_mod}
use Rattle.hashes.specs.Word.{word}
use Rattle.hashes.proofs.Sums.{lower_digits, next_place}
use Rattle.hashes.proofs.Multiples.{half_byte_up, multiple_one, multiple_up}
use Rattle.hashes.specs.Divisors.{irreducible_pos}
use Rattle.hashes.specs.FieldLemmas.{mod_assoc, mod_rem_l, mod_xor_l, mod_zero_l}
use Rattle.hashes.specs.Modulus.{modulus_degree, modulus_irreducible}
use Rattle.hashes.specs.Remainder.{remainder_small}
use Rattle.hashes.specs.Times.{times_one_r, times_xor_r}
use Rattle.hashes.specs.Words.{division_word, times_shl}
use Rattle.hashes.specs.Xor.{xor_shl, xor_swap}
use Rattle.std.proofs.lemmas.Bool.{eq-eqb, ne_eqb}

pos : 0 < modulus
pos = irreducible_pos modulus_irreducible

-- ---- the multiples of a point

small : (a : ℕ) → a < 2 ^ 64 → a < 2 ^ degree modulus
small a h = rw modulus_degree h

pub half_byte_twice : (a : ℕ) → times_mod modulus 16 (times_mod modulus 16 a) ≡ times_mod modulus 256 a
half_byte_twice a = multiple_up modulus pos 4 16 a

-- the multiple in row j at place d
abbrev pub multiple : ℕ → ℕ → ℕ → ℕ
multiple a j d = times_mod modulus (d * 2 ^ (8 * j)) a

-- x^(8j) times a
abbrev pub Power : ℕ → ℕ → ℕ → Type 0
Power a j b = b ≡ times_mod modulus (2 ^ (8 * j)) a

pub first_power : (a : ℕ) → a < 2 ^ 64 → Power a 0 a
first_power a h = multiple_one 64 0x1B a (omega arith) h

pub next_power : (a j b c : ℕ) → Power a j b → c ≡ times_mod modulus 256 b → Power a (j + 1) c
next_power a j b c p q =
    q ∙ ap (times_mod modulus 256) p ∙ multiple_up modulus pos 8 (2 ^ (8 * j)) a ∙ ap (λ (x : ℕ). times_mod modulus x a) (next_place 8 j)

-- a row is the one in place j
abbrev pub MultiplesRow : ℕ → ℕ → List ℕ → Type 0
MultiplesRow a j row = (d : ℕ) → d < 16 → get_or row d 0 ≡ multiple a j d

-- the multiples of x^(8j) times a
pub row_at : (a j b : ℕ) (row : List ℕ) → Power a j b → ((d : ℕ) → d < 16 → get_or row d 0 ≡ times_mod modulus d b) → MultiplesRow a j row
row_at a j b row p e d h =
    e d h ∙ ap (times_mod modulus d) p ∙ sym (mod_assoc modulus pos d (2 ^ (8 * j)) a) ∙ ap (λ (x : ℕ). times_mod modulus x a) shifted
    ∙ mod_rem_l modulus pos (d * 2 ^ (8 * j)) a
  where
    shifted : times_mod modulus d (2 ^ (8 * j)) ≡ remainder (d * 2 ^ (8 * j)) modulus
    shifted = unfold times_mod in ap (λ (x : ℕ). remainder x modulus) (times_shl d (8 * j))

-- the first n rows
abbrev pub MultiplesRows : ℕ → ℕ → List (List ℕ) → Type 0
MultiplesRows a n rows = (i : ℕ) → i < n → MultiplesRow a i (get_or rows i [])

pub multiples_rows_more : (a i : ℕ) (rows : List (List ℕ)) (row : List ℕ) → i < length rows
    → MultiplesRow a i row → MultiplesRows a i rows → MultiplesRows a (i + 1) (set rows i row)
multiples_rows_more a i rows row within filled before =
    below_more _ _
    (λ k l d h. let ne : k ≢ i = omega arith in rw get_or-set_other (before k l d h))
    (λ d h. rw get_or-set_same (filled d h))

-- ---- a product by half bytes

pub no_half : (a v : ℕ) → 0 ≡ times_mod modulus (lower_halves 0 v) a
unfolding lower_halves
no_half a v = sym (mod_zero_l modulus pos a)

-- the sum for the bytes below place j, and the entry for that at place j; its bits and those above
-- are r
pub half_added : (a v j r sum d : ℕ) → r ≡ v / 2 ^ (8 * j) → d ≡ multiple a j (r % 16)
    → sum ≡ times_mod modulus (lower_halves j v) a
    → bit_xor sum d ≡ times_mod modulus (lower_halves (j + 1) v) a
unfolding lower_halves
half_added a v j r sum d left p before =
    ap₂ bit_xor before (p ∙ ap (λ (x : ℕ). multiple a j (x % 16)) left)
    ∙ sym (mod_xor_l modulus pos (lower_halves j v) (v / 2 ^ (8 * j) % 16 * 2 ^ (8 * j)) a)
    ∙ ap (λ (n : ℕ). times_mod modulus (lower_halves n v) a) next
  where
    next : suc j ≡ j + 1
    next = omega arith

-- both halves of the byte at place j
both_halves : (v j : ℕ)
    → bit_xor (v / 16 / 2 ^ (8 * j) % 16 * 2 ^ (8 * j) * 2 ^ 4) (v / 2 ^ (8 * j) % 16 * 2 ^ (8 * j))
    ≡ v / 2 ^ (8 * j) % 2 ^ 8 * 2 ^ (8 * j)
both_halves v j =
    ap (λ (x : ℕ). bit_xor x (b % 16 * 2 ^ (8 * j)))
    (ap (λ (x : ℕ). x * 2 ^ (8 * j) * 2 ^ 4) upper
    ∙ mul_right_comm (b / 16 % 16) (2 ^ (8 * j)) (2 ^ 4))
    ∙ xor_shl (b / 16 % 16 * 2 ^ 4) (b % 16) (8 * j)
    ∙ ap (λ (x : ℕ). x * 2 ^ (8 * j))
    (xor_shifted (b / 16 % 16) 4 (b % 16) (mod-lt b (pow_pos 4)) ∙ omega arith)
  where
    b : ℕ
    b = v / 2 ^ (8 * j)

    upper : v / 16 / 2 ^ (8 * j) % 16 ≡ b / 16 % 16
    upper =
        ap (λ (x : ℕ). x % 16)
        (div-div-eq-div-mul v 16 (2 ^ (8 * j))
        ∙ ap (λ (x : ℕ). v / x) (mul_comm 16 (2 ^ (8 * j)))
        ∙ sym (div-div-eq-div-mul v (2 ^ (8 * j)) 16))

-- the upper halves, moved up, and the lower ones
halves_joined : (v n : ℕ)
    → bit_xor (lower_halves n (v / 16) * 2 ^ 4) (lower_halves n v) ≡ v % 2 ^ (8 * n)
unfolding lower_halves
halves_joined v zero = sym (mod-one v)
halves_joined v (suc n) =
    ap (λ (x : ℕ). bit_xor x (bit_xor (lower_halves n v) low))
    (sym (xor_shl (lower_halves n (v / 16)) high 4))
    ∙ xor_swap (lower_halves n (v / 16) * 2 ^ 4) (high * 2 ^ 4) (lower_halves n v) low
    ∙ ap₂ bit_xor (halves_joined v n) (both_halves v n)
    ∙ sym (lower_digits 8 v n)
    ∙ ap (λ (k : ℕ). v % 2 ^ (8 * k)) next
  where
    high : ℕ
    high = v / 16 / 2 ^ (8 * n) % 16 * 2 ^ (8 * n)

    low : ℕ
    low = v / 2 ^ (8 * n) % 16 * 2 ^ (8 * n)

    next : n + 1 ≡ suc n
    next = omega arith

-- the product of a word, by the sums for its upper and for its lower halves
pub halves_added : (a v low high up : ℕ) → v < 2 ^ 64
    → high ≡ times_mod modulus (lower_halves 8 (v / 16)) a
    → low ≡ times_mod modulus (lower_halves 8 v) a
    → up ≡ times_mod modulus 16 high → bit_xor up low ≡ times_mod modulus v a
halves_added a v low high up lt p q e =
    ap₂ bit_xor
    (e ∙ ap (times_mod modulus 16) p ∙ multiple_up modulus pos 4 (lower_halves 8 (v / 16)) a)
    q
    ∙ sym (mod_xor_l modulus pos (lower_halves 8 (v / 16) * 2 ^ 4) (lower_halves 8 v) a)
    ∙ ap (λ (x : ℕ). times_mod modulus x a) (halves_joined v 8 ∙ omega arith)

-- ---- a part

-- the bytes xs do not finish the word
pub bytes_held : (a v : ℕ) (bs xs : List ℕ) → length bs + length xs < 8
    → absorbed evaluation_family (evaluation_state a v bs) xs ≡ evaluation_state a v (bs ++ xs)
bytes_held a v bs [] h = ap (evaluation_state a v) (sym (append-nil bs))
bytes_held a v bs (b ∷ xs) h =
    ap (λ (c : Bool). absorbed evaluation_family (cond c (evaluation_state a (with_word a v (word (bs ++ (b ∷ [])))) []) (evaluation_state a v (bs ++ (b ∷ [])))) xs)
    (ne_eqb (length bs) 7 (omega arith))
    ∙ bytes_held a v (bs ++ (b ∷ [])) xs (omega (arith, length-append bs (b ∷ [])))
    ∙ ap (evaluation_state a v) (append_assoc bs (b ∷ []) xs)

-- the bytes that finish a word with the bytes bs
pub word_taken : (a v : ℕ) (bs xs : List ℕ) → length bs < 8 → length bs + length xs ≡ 8
    → absorbed evaluation_family (evaluation_state a v bs) xs ≡ evaluation_state a (with_word a v (word (bs ++ xs))) []
word_taken a v bs [] h l = absurd (omega arith)
word_taken a v bs (b ∷ xs) h l = go (λ bs h l. word_taken a v bs xs h l) (ℕ_discrete (length bs) 7)
  where
    more : length (bs ++ (b ∷ [])) ≡ length bs + 1
    more = length-append bs (b ∷ [])

    next_is : (c : Bool) → eqb (length bs) 7 ≡ c
        → evaluation_next (evaluation_state a v bs) b ≡ cond c (evaluation_state a (with_word a v (word (bs ++ (b ∷ [])))) []) (evaluation_state a v (bs ++ (b ∷ [])))
    next_is c e = ap (λ (c : Bool). cond c (evaluation_state a (with_word a v (word (bs ++ (b ∷ [])))) []) (evaluation_state a v (bs ++ (b ∷ [])))) e

    last : (ys : List ℕ) → length ys ≡ 0
        → absorbed evaluation_family (evaluation_state a (with_word a v (word (bs ++ (b ∷ [])))) []) ys ≡ evaluation_state a (with_word a v (word (bs ++ (b ∷ ys)))) []
    last [] e = refl
    last (y ∷ ys) e = absurd (omega arith)

    go : ((bs : List ℕ) → length bs < 8 → length bs + length xs ≡ 8
        → absorbed evaluation_family (evaluation_state a v bs) xs ≡ evaluation_state a (with_word a v (word (bs ++ xs))) [])
        → Dec (length bs ≡ 7)
        → absorbed evaluation_family (evaluation_next (evaluation_state a v bs) b) xs ≡ evaluation_state a (with_word a v (word (bs ++ (b ∷ xs)))) []
    go rest (yes e) = ap (λ s. absorbed evaluation_family s xs) (next_is true (eq-eqb (length bs) 7 e)) ∙ last xs (omega (arith, l))
    go rest (no n) =
        ap (λ s. absorbed evaluation_family s xs) (next_is false (ne_eqb (length bs) 7 n))
        ∙ rest (bs ++ (b ∷ [])) (omega (arith, more)) (omega (arith, more, l))
        ∙ ap (λ (ys : List ℕ). evaluation_state a (with_word a v (word ys)) []) (append_assoc bs (b ∷ []) xs)

-- the word that the bytes xs finish is the next
pub word_finished : (a v u w : ℕ) (bs xs : List ℕ) → length bs < 8 → length bs + length xs ≡ 8 → u ≡ with_word a v w → w ≡ word (bs ++ xs)
    → evaluation_state a u [] ≡ absorbed evaluation_family (evaluation_state a v bs) xs
word_finished a v u w bs xs h l p q = rw (p, q) (sym (word_taken a v bs xs h l))

-- ---- x^4 times a word

-- 0x1B times a polynomial
abbrev low_times : ℕ → ℕ
low_times a = bit_xor (bit_xor (bit_xor a (a * 2)) (a * 8)) (a * 16)

times_low : (a : ℕ) → times a 0x1B ≡ low_times a
times_low a =
    times_xor_r a (bit_xor (bit_xor 1 2) 8) 16
    ∙ ap₂ bit_xor
    (times_xor_r a (bit_xor 1 2) 8 ∙ ap₂ bit_xor (times_xor_r a 1 2 ∙ ap₂ bit_xor (times_one_r a) (times_shl a 1)) (times_shl a 3))
    (times_shl a 4)

-- x^64 times half a byte
half_byte_out : (a : ℕ) → a < 16 → division 64 0x1B a ≡ low_times a
unfolding times_mod
half_byte_out a h =
    division_word 64 0x1B a (omega arith)
    ∙ ap (λ (x : ℕ). remainder x modulus) (times_low a)
    ∙ remainder_small modulus pos (low_times a)
    (small (low_times a)
    (xor_lt 64 (bit_xor (bit_xor a (a * 2)) (a * 8)) (a * 16)
    (xor_lt 64 (bit_xor a (a * 2)) (a * 8) (xor_lt 64 a (a * 2) (omega arith) (omega arith)) (omega arith)) (omega arith)))

half_byte_times : (a : ℕ) → a < 2 ^ 64 → times_mod modulus 16 a ≡ bit_xor (a * 16 % 2 ^ 64) (low_times (a / 2 ^ 60))
half_byte_times a h = half_byte_up 64 0x1B a (omega arith) (omega arith) ∙ ap (bit_xor (a * 16 % 2 ^ 64)) (half_byte_out (a / 2 ^ 60) (omega arith))

-- the entries from place i on
abbrev Folded : ℕ → List ℕ → Type 0
Folded i [] = Unit {0}
Folded i (x ∷ xs) = (x ≡ low_times i) × Folded (suc i) xs

folded_at : (i d : ℕ) (xs : List ℕ) → Folded i xs → d < length xs → get_or xs d 0 ≡ low_times (i + d)
folded_at i d [] f h = absurd (omega arith)
folded_at i zero (x ∷ xs) f h = let e : i ≡ i + 0 = omega arith in f.0 ∙ ap low_times e
folded_at i (suc d) (x ∷ xs) f h = let e : suc i + d ≡ i + suc d = omega arith in folded_at (suc i) d xs f.1 (omega arith) ∙ ap low_times e

folded : List ℕ
folded = 0x00 ∷ (0x1B ∷ (0x36 ∷ (0x2D ∷ (0x6C ∷ (0x77 ∷ (0x5A ∷ (0x41 ∷ (0xD8 ∷ (0xC3 ∷ (0xEE ∷ (0xF5 ∷ (0xB4 ∷ (0xAF ∷ (0x82 ∷ (0x99 ∷ [])))))))))))))))

all_folded : Folded 0 folded
unfolding folded
all_folded = (refl, (refl, (refl, (refl, (refl, (refl, (refl, (refl, (refl, (refl, (refl, (refl, (refl, (refl, (refl, (refl, tt))))))))))))))))

-- as the machine works it out
pub half_byte_folded : (a : ℕ) → a < 2 ^ 64
    → bit_xor (a * 16 % 2 ^ 64)
    (get_or (0x00 ∷ (0x1B ∷ (0x36 ∷ (0x2D ∷ (0x6C ∷ (0x77 ∷ (0x5A ∷ (0x41 ∷ (0xD8 ∷ (0xC3 ∷ (0xEE ∷ (0xF5 ∷ (0xB4 ∷ (0xAF ∷ (0x82 ∷ (0x99 ∷ [])))))))))))))))) (a / 2 ^ 60) 0)
    ≡ times_mod modulus 16 a
unfolding folded
half_byte_folded a h = ap (bit_xor (a * 16 % 2 ^ 64)) (folded_at 0 (a / 2 ^ 60) folded all_folded (omega arith) ∙ ap low_times (zero-add (a / 2 ^ 60))) ∙ sym (half_byte_times a h)
