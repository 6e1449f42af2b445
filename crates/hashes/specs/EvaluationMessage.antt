-- The words of a padded message: how many, how large, and that different messages have different words.
use Rattle.std.specs.Prelude.{◌≡◌, ℕ, zero, suc, ◌+◌, ◌-◌, ◌*◌, ◌/◌, ◌%◌, ◌^◌, ◌<◌, ◌≢◌, List, [], ◌∷◌, ◌++◌, length, take, drop, replicate, slice_index, slice_index_or, refl}
use mathlib.Core.List.{append_assoc, head-eq_of_cons-eq, tail-eq_of_cons-eq}
use Rattle.std.proofs.Common.{sym, ap, ap₂, ◌∙◌, arith, length-append, length-drop, take-append-drop, length-take-le}
use Rattle.std.proofs.Math.Decide.{dec_lt}
use Rattle.std.proofs.Math.Seq.{drop-append_seam, take-append_seam}
use Rattle.hashes.specs.Evaluation.{message_words, padded, words}
use Rattle.hashes.specs.Word.{Bytes, word}
use Rattle.hashes.specs.Bytes.{word_64, word_injective}
use Rattle.std.proofs.ByRecursion.{All-append, All-drop, All-take}
use Rattle.std.proofs.lemmas.List.{get_or-append-add, nil_from_length, take_all, length-replicate}
use Rattle.std.specs.List.{AllByRecursion}

-- ---- the padding

length_padded : (m : List ℕ) → length (padded m) ≡ 8 * (length m / 8 + 1)
length_padded m =
    length-append m (0x80 ∷ replicate (7 - length m % 8) 0)
    ∙ ap (λ (x : ℕ). length m + suc x) (length-replicate (7 - length m % 8) 0)
    ∙ omega arith

zeros : (k : ℕ) → Bytes (replicate k 0)
zeros zero = tt
zeros (suc k) = (omega arith, zeros k)

bytes_padded : (m : List ℕ) → Bytes m → Bytes (padded m)
bytes_padded m h = All-append (λ b. b < 256) m (0x80 ∷ replicate (7 - length m % 8) 0) h (omega arith, zeros (7 - length m % 8))

-- the mark stands just after the message, and zeros after it
mark : List ℕ → ℕ → ℕ
mark m i = slice_index (0x80 ∷ replicate (7 - length m % 8) 0) i

mark_at : (m : List ℕ) (i : ℕ) → slice_index (padded m) (length m + i) ≡ mark m i
unfolding mark
mark_at m i = get_or-append-add m (0x80 ∷ replicate (7 - length m % 8) 0) i 0

slice_index_zeros : (k i : ℕ) → ◌≡◌ {A = ℕ} (slice_index (replicate k 0) i) 0
slice_index_zeros zero i = refl
slice_index_zeros (suc k) zero = refl
slice_index_zeros (suc k) (suc i) = slice_index_zeros k i

-- a message that is shorter by i + 1 bytes is padded to another string
apart : (m n : List ℕ) (i : ℕ) → length n ≡ length m + suc i → padded m ≢ padded n
unfolding mark
apart m n i l e =
    let here : slice_index_or (padded n) (length n + 0) 0 ≡ 0x80 = mark_at n 0 in
    let there : slice_index_or (padded m) (length m + suc i) 0 ≡ 0 = mark_at m (suc i) ∙ slice_index_zeros (7 - length m % 8) i in
    let same : slice_index_or (padded m) (length m + suc i) 0 ≡ slice_index_or (padded n) (length n + 0) 0 =
    ap₂ (λ (x : List ℕ) (j : ℕ). slice_index x j) e (omega (arith, l)) in
    absurd (omega (arith, here, there, same))

take_padded : (m : List ℕ) → take (length m) (padded m) ≡ m
take_padded m = take-append_seam m (0x80 ∷ replicate (7 - length m % 8) 0)

padded_injective : (m n : List ℕ) → padded m ≡ padded n → m ≡ n
padded_injective m n e = go (dec_lt (length m) (length n)) (dec_lt (length n) (length m))
  where
    go : Dec (length m < length n) → Dec (length n < length m) → m ≡ n
    go (yes l) d = absurd (apart m n (length n - suc (length m)) (omega arith) e)
    go (no l) (yes k) = absurd (apart n m (length m - suc (length n)) (omega arith) (sym e))
    go (no l) (no k) =
        let same : length m ≡ length n = omega arith in
        sym (take_padded m) ∙ ap₂ (λ (i : ℕ) (x : List ℕ). take i x) same e ∙ take_padded n

-- ---- words

pub length_words : (k : ℕ) (bs : List ℕ) → length (words k bs) ≡ k
unfolding words
length_words zero bs = refl
length_words (suc k) bs = ap suc (length_words k (drop 8 bs))

words_lt : (k : ℕ) (bs : List ℕ) → Bytes bs → length bs ≡ 8 * k → AllByRecursion (λ w. w < 2 ^ 64) (words k bs)
unfolding words
words_lt zero bs h l = tt
words_lt (suc k) bs h l = (
  word_64 (take 8 bs) (All-take (λ b. b < 256) 8 bs h) (length-take-le 8 bs (omega arith)),
  words_lt k (drop 8 bs) (All-drop (λ b. b < 256) 8 bs h) (length-drop 8 bs ∙ omega arith),
)

words_injective : (k : ℕ) (bs cs : List ℕ) → Bytes bs → Bytes cs → length bs ≡ 8 * k → length cs ≡ 8 * k → words k bs ≡ words k cs → bs ≡ cs
unfolding words
words_injective zero bs cs hb hc lb lc e = nil_from_length bs lb ∙ sym (nil_from_length cs lc)
words_injective (suc k) bs cs hb hc lb lc e =
    sym (take-append-drop 8 bs)
    ∙ ap₂ ◌++◌
    (word_injective (take 8 bs) (take 8 cs) (All-take (λ b. b < 256) 8 bs hb) (All-take (λ b. b < 256) 8 cs hc)
    (length-take-le 8 bs (omega arith) ∙ sym (length-take-le 8 cs (omega arith))) (head-eq_of_cons-eq e))
    (words_injective k (drop 8 bs) (drop 8 cs) (All-drop (λ b. b < 256) 8 bs hb) (All-drop (λ b. b < 256) 8 cs hc)
    (length-drop 8 bs ∙ omega arith) (length-drop 8 cs ∙ omega arith) (tail-eq_of_cons-eq e))
    ∙ take-append-drop 8 cs

-- ---- both

pub message_words_lt : (m : List ℕ) → Bytes m → AllByRecursion (λ w. w < 2 ^ 64) (message_words m)
message_words_lt m h = words_lt (length m / 8 + 1) (padded m) (bytes_padded m h) (length_padded m)

pub message_words_injective : (m n : List ℕ) → Bytes m → Bytes n → message_words m ≡ message_words n → m ≡ n
message_words_injective m n hm hn e =
    padded_injective m n
    (words_injective (length m / 8 + 1) (padded m) (padded n) (bytes_padded m hm) (bytes_padded n hn) (length_padded m)
    (length_padded n ∙ ap (λ (k : ℕ). 8 * k) (sym count)) (e ∙ ap (λ (k : ℕ). words k (padded n)) (sym count)))
  where
    count : length m / 8 + 1 ≡ length n / 8 + 1
    count = sym (length_words (length m / 8 + 1) (padded m)) ∙ ap length e ∙ length_words (length n / 8 + 1) (padded n)

-- ---- a word more in front

-- eight bytes, and the rest of the message
pub message_words_cons : (bs m : List ℕ) → length bs ≡ 8 → message_words (bs ++ m) ≡ word bs ∷ message_words m
unfolding words
message_words_cons bs m l =
    ap₂ words count whole ∙ ap₂ ◌∷◌ (ap word (first bs (padded m) l)) (ap (words (length m / 8 + 1)) (rest bs (padded m) l))
  where
    lengths : length (bs ++ m) ≡ 8 + length m
    lengths = length-append bs m ∙ ap (λ (x : ℕ). x + length m) l

    count : length (bs ++ m) / 8 + 1 ≡ suc (length m / 8 + 1)
    count = omega (arith, lengths)

    whole : padded (bs ++ m) ≡ bs ++ padded m
    whole =
        ap (λ (k : ℕ). (bs ++ m) ++ (0x80 ∷ replicate (7 - k) 0)) (omega (arith, lengths))
        ∙ append_assoc bs m (0x80 ∷ replicate (7 - length m % 8) 0)

    first : (xs ys : List ℕ) → length xs ≡ 8 → take 8 (xs ++ ys) ≡ xs
    first xs ys l = ap (λ (k : ℕ). take k (xs ++ ys)) (sym l) ∙ take-append_seam xs ys

    rest : (xs ys : List ℕ) → length xs ≡ 8 → drop 8 (xs ++ ys) ≡ ys
    rest xs ys l = ap (λ (k : ℕ). drop k (xs ++ ys)) (sym l) ∙ drop-append_seam xs ys

-- less than a word
pub message_words_short : (bs : List ℕ) → length bs < 8 → message_words bs ≡ word (padded bs) ∷ []
unfolding words
message_words_short bs l =
    ap (λ (k : ℕ). words k (padded bs)) one ∙ ap (λ (x : List ℕ). word x ∷ []) (take_all 8 (padded bs) (omega (arith, length_padded bs)))
  where
    one : length bs / 8 + 1 ≡ 1
    one = omega arith
