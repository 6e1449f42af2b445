-- The bytes of a word that is under way, as the low bytes of a word.
use Rattle.std.proofs.Common.{◌≡◌, ℕ, zero, suc, ◌+◌, ◌-◌, ◌*◌, ◌/◌, ◌%◌, ◌^◌, ◌<◌, ◌≤◌, List, [], ◌∷◌, ◌++◌, length, take, replicate, get_or, refl, sym, ap, ap₂, ◌∙◌, arith, append_assoc, append-nil}
use Rattle.std.specs.Int.{byte_at, bytes_high_first}
use Rattle.std.specs.Int.Digits.{number_from_digits_after}
use Rattle.std.proofs.lemmas.Int.Digits.{number_after_append}
use Rattle.std.proofs.Math.Seq.{take-suc}
use Rattle.std.proofs.lemmas.Nat.{or_shifted}
use Rattle.std.specs.Int.Bits.{bit_or}
use native.Mathlib.Nat.{div-div-eq-div-mul}
use Rattle.hashes.specs.Bytes.{word8}
use Rattle.hashes.specs.Evaluation.{padded}
use Rattle.hashes.specs.Word.{Bytes, word}

pub length_bytes : (n x : ℕ) → length (bytes_high_first n x) ≡ n
length_bytes zero x = refl
length_bytes (suc n) x = ap suc (length_bytes n x)

-- ---- bytes from below

next_byte : (i x b : ℕ) → b < 256 → byte_at (suc i) (x * 256 + b) ≡ byte_at i x
next_byte zero x b h = omega arith
next_byte (suc i) x b h =
    ap (λ (y : ℕ). y % 256)
    (ap (λ (y : ℕ). (x * 256 + b) / y) power ∙ sym (div-div-eq-div-mul (x * 256 + b) 256 (256 ^ suc i)) ∙ ap (λ (y : ℕ). y / 256 ^ suc i) gone)
  where
    power : 256 ^ suc (suc i) ≡ 256 * 256 ^ suc i
    power = omega arith

    gone : (x * 256 + b) / 256 ≡ x
    gone = omega arith

one_more : (n x b : ℕ) → b < 256 → bytes_high_first (suc n) (x * 256 + b) ≡ bytes_high_first n x ++ (b ∷ [])
one_more zero x b h = ap (λ (y : ℕ). y ∷ []) (omega arith)
one_more (suc n) x b h = ap₂ ◌∷◌ (next_byte n x b h) (one_more n x b h)

more : (n x : ℕ) (bs : List ℕ) → Bytes bs → bytes_high_first (n + length bs) (number_from_digits_after 256 x bs) ≡ bytes_high_first n x ++ bs
more n x [] h = ap (λ (k : ℕ). bytes_high_first k x) (omega arith) ∙ sym (append-nil (bytes_high_first n x))
more n x (b ∷ bs) h =
    ap (λ (k : ℕ). bytes_high_first k (number_from_digits_after 256 (x * 256 + b) bs)) (omega arith)
    ∙ more (suc n) (x * 256 + b) bs h.1
    ∙ ap (λ (l : List ℕ). l ++ bs) (one_more n x b h.0)
    ∙ append_assoc (bytes_high_first n x) (b ∷ []) bs

-- ---- what stands above eight bytes does not count

same_byte : (i x : ℕ) → i < 8 → byte_at i (x % 2 ^ 64) ≡ byte_at i x
same_byte zero x h = omega arith
same_byte (suc zero) x h = omega arith
same_byte (suc (suc zero)) x h = omega arith
same_byte (suc (suc (suc zero))) x h = omega arith
same_byte (suc (suc (suc (suc zero)))) x h = omega arith
same_byte (suc (suc (suc (suc (suc zero))))) x h = omega arith
same_byte (suc (suc (suc (suc (suc (suc zero)))))) x h = omega arith
same_byte (suc (suc (suc (suc (suc (suc (suc zero))))))) x h = omega arith
same_byte (suc (suc (suc (suc (suc (suc (suc (suc i)))))))) x h = absurd (omega arith)

same_bytes : (n x : ℕ) → n ≤ 8 → bytes_high_first n (x % 2 ^ 64) ≡ bytes_high_first n x
same_bytes zero x h = refl
same_bytes (suc n) x h = ap₂ ◌∷◌ (same_byte n x (omega arith)) (same_bytes n x (omega arith))

-- ---- a part

-- the low n bytes of x, and a part after them: y is the word with the part put in
pub extended : (n x y : ℕ) (part : List ℕ) → Bytes part → n + length part ≤ 8 → y ≡ number_from_digits_after 256 x part % 2 ^ 64
    → bytes_high_first (n + length part) y ≡ bytes_high_first n x ++ part
extended n x y part h l e =
    ap (bytes_high_first (n + length part)) e ∙ same_bytes (n + length part) (number_from_digits_after 256 x part) l ∙ more n x part h

-- eight bytes are the word
whole_word : (x : ℕ) → x < 2 ^ 64 → x ≡ word (bytes_high_first 8 x)
whole_word x h = (omega arith) ∙ word8 (bytes_high_first 8 x) refl

pub finished : (n x y : ℕ) (part : List ℕ) → Bytes part → n + length part ≡ 8 → y < 2 ^ 64 → y ≡ number_from_digits_after 256 x part % 2 ^ 64
    → y ≡ word (bytes_high_first n x ++ part)
finished n x y part h l lt e =
    whole_word y lt ∙ ap word (ap (λ (k : ℕ). bytes_high_first k y) (sym l) ∙ extended n x y part h (omega arith) e)

-- one byte put in from below
pub byte_below : (x b : ℕ) → b < 256 → bit_or (x * 256 % 2 ^ 64) b ≡ (x * 256 + b) % 2 ^ 64
byte_below x b lt = ap (λ (z : ℕ). bit_or z b) top ∙ or_shifted (x % 2 ^ 56) 8 b lt ∙ omega arith
  where
    top : x * 256 % 2 ^ 64 ≡ x % 2 ^ 56 * 2 ^ 8
    top = omega arith

-- one byte more of a part
pub byte_more : (x y i : ℕ) (part : List ℕ) → i < length part → y ≡ number_from_digits_after 256 x (take i part) % 2 ^ 64
    → (y * 256 + get_or part i 0) % 2 ^ 64 ≡ number_from_digits_after 256 x (take (i + 1) part) % 2 ^ 64
byte_more x y i part h p = omega (arith, next, p)
  where
    one : i + 1 ≡ suc i
    one = omega arith

    next : number_from_digits_after 256 x (take (i + 1) part) ≡ number_from_digits_after 256 x (take i part) * 256 + get_or part i 0
    next =
        ap (number_from_digits_after 256 x) (ap (λ (k : ℕ). take k part) one ∙ take-suc part i 0 h)
        ∙ number_after_append 256 x (take i part) (get_or part i 0 ∷ [])

-- ---- the padding

mark : List ℕ
mark = 0x80 ∷ (0 ∷ (0 ∷ (0 ∷ (0 ∷ (0 ∷ (0 ∷ (0 ∷ [])))))))

marked : (m : ℕ) → m < 8 → take (8 - m) mark ≡ 0x80 ∷ replicate (7 - m % 8) 0
unfolding mark
marked zero h = refl
marked (suc zero) h = refl
marked (suc (suc zero)) h = refl
marked (suc (suc (suc zero))) h = refl
marked (suc (suc (suc (suc zero)))) h = refl
marked (suc (suc (suc (suc (suc zero))))) h = refl
marked (suc (suc (suc (suc (suc (suc zero)))))) h = refl
marked (suc (suc (suc (suc (suc (suc (suc zero))))))) h = refl
marked (suc (suc (suc (suc (suc (suc (suc (suc m)))))))) h = absurd (omega arith)

pub padding : (bs : List ℕ) (n : ℕ) → length bs < 8 → n + length bs ≡ 8
    → bs ++ take n (0x80 ∷ (0 ∷ (0 ∷ (0 ∷ (0 ∷ (0 ∷ (0 ∷ (0 ∷ [])))))))) ≡ padded bs
unfolding mark
padding bs n h e = ap (λ (l : List ℕ). bs ++ l) (ap (λ (k : ℕ). take k mark) (omega arith) ∙ marked (length bs) h)
