-- The numbers that byte strings write.
use Rattle.std.specs.Prelude.{◌≡◌, ℕ, suc, ◌+◌, ◌*◌, ◌/◌, ◌%◌, ◌^◌, ◌<◌, List, [], ◌∷◌, length, drop, slice_index, refl}
use Rattle.std.proofs.Common.{sym, ap, ap₂, subst, ◌∙◌, add-mul, mul_assoc, mul_comm, pow-suc, zero-add, arith, drop-cons, Fits}
use Rattle.std.proofs.Math.Nat.{suc_inj}
use Rattle.std.proofs.Math.Arith.{digits_div, digits_mod}
use Rattle.std.specs.Int.{w8}
use Rattle.hashes.specs.Word.{Bytes, word}
use Rattle.std.proofs.lemmas.Int.Digits.{number_lt}
use Rattle.std.proofs.lemmas.List.{drop_all}
use Rattle.std.specs.Int.Digits.{number_from_digits_after}

-- a list of eight, by its elements
eight_entries : (xs : List ℕ) → length xs ≡ 8
    → xs ≡ slice_index xs 0 ∷ (slice_index xs 1 ∷ (slice_index xs 2 ∷ (slice_index xs 3 ∷ (slice_index xs 4 ∷ (slice_index xs 5 ∷ (slice_index xs 6 ∷ (slice_index xs 7 ∷ [])))))))
eight_entries xs n =
    at 0 (omega arith) ∙ more 0 (at 1 (omega arith) ∙ more 1 (at 2 (omega arith) ∙ more 2 (at 3 (omega arith) ∙ more 3 (at 4 (omega arith)
    ∙ more 4 (at 5 (omega arith) ∙ more 5 (at 6 (omega arith) ∙ more 6 (at 7 (omega arith) ∙ more 7 (drop_all 8 xs (omega arith)))))))))
  where
    at : (i : ℕ) → i < length xs → drop i xs ≡ slice_index xs i ∷ drop (suc i) xs
    at i h = drop-cons xs i 0 h

    more : (i : ℕ) {ys zs : List ℕ} → ys ≡ zs → slice_index xs i ∷ ys ≡ slice_index xs i ∷ zs
    more i e = ap (λ (l : List ℕ). slice_index xs i ∷ l) e

-- eight bytes, highest first, as std sums them
pub word8 :
    (xs : List ℕ) → length xs ≡ 8
    → slice_index xs 0 * 72057594037927936 + slice_index xs 1 * 281474976710656 + slice_index xs 2 * 1099511627776
    + slice_index xs 3 * 4294967296 + slice_index xs 4 * 16777216 + slice_index xs 5 * 65536 + slice_index xs 6 * 256 + slice_index xs 7
    ≡ word xs
word8 xs n = let w = ap word (eight_entries xs n) in omega arith

-- bytes after a number
pub after_word : (n : ℕ) (bs : List ℕ) → number_from_digits_after 256 n bs ≡ n * 256 ^ length bs + word bs
after_word n [] = omega arith
after_word n (b ∷ bs) =
    after_word (n * 256 + b) bs
    ∙ regroup (256 ^ length bs) (word bs)
    ∙ ap₂ (λ (x y : ℕ). n * x + y) (sym (pow-suc 256 (length bs))) (sym (after_word (0 * 256 + b) bs))
  where
    regroup : (k w : ℕ) → (n * 256 + b) * k + w ≡ n * (k * 256) + ((0 * 256 + b) * k + w)
    regroup k w = rw (add-mul (n * 256) b k, mul_assoc n 256 k, mul_comm 256 k) (omega arith)

word_cons : (b : ℕ) (bs : List ℕ) → word (b ∷ bs) ≡ b * 256 ^ length bs + word bs
word_cons b bs = ap (λ (x : ℕ). number_from_digits_after 256 x bs) (zero-add b) ∙ after_word b bs

pub word_lt : (bs : List ℕ) → Bytes bs → word bs < 256 ^ length bs
word_lt bs h = number_lt 256 bs h

pub word_64 : (bs : List ℕ) → Bytes bs → length bs ≡ 8 → word bs < 2 ^ 64
word_64 bs h e = subst (λ (x : ℕ). word bs < 256 ^ x) e (word_lt bs h)

-- strings of one length that write the same word are the same
pub word_injective : (cs bs : List ℕ) → Bytes cs → Bytes bs → length cs ≡ length bs → word cs ≡ word bs → cs ≡ bs
word_injective [] [] h k l e = refl
word_injective [] (b ∷ bs) h k l e = absurd (apart l)
  where
    apart : 0 ≡ suc (length bs) → ⊥
    apart l = omega arith
word_injective (a ∷ cs) [] h k l e = absurd (apart l)
  where
    apart : suc (length cs) ≡ 0 → ⊥
    apart l = omega arith
word_injective (a ∷ cs) (b ∷ bs) h k l e =
    let same : length cs ≡ length bs = suc_inj l in
    let parts : a * 256 ^ length cs + word cs ≡ b * 256 ^ length cs + word bs =
    sym (word_cons a cs) ∙ e ∙ word_cons b bs ∙ ap (λ (x : ℕ). b * 256 ^ x + word bs) (sym same) in
    let small : word bs < 256 ^ length cs = subst (λ (x : ℕ). word bs < 256 ^ x) (sym same) (word_lt bs k.1) in
    ap₂ ◌∷◌
    (sym (digits_div a (word_lt cs h.1)) ∙ ap (λ (x : ℕ). x / 256 ^ length cs) parts ∙ digits_div b small)
    (word_injective cs bs h.1 k.1 same (sym (digits_mod a (word_lt cs h.1)) ∙ ap (λ (x : ℕ). x % 256 ^ length cs) parts ∙ digits_mod b small))

-- what the code holds as bytes
pub typed_bytes : (xs : List ℕ) → ((i : ℕ) → Fits w8 (slice_index xs i)) → Bytes xs
typed_bytes [] h = tt
typed_bytes (x ∷ xs) h = ((h 0).fits, typed_bytes xs (λ i. h (suc i)))
