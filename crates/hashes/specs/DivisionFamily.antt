-- The division family computes the formula, and keeps the law.
use Rattle.std.specs.Prelude.{◌≡◌, ℕ, ◌+◌, ◌*◌, ◌/◌, ◌^◌, ◌<◌, ◌≤◌, max, List, [], ◌∷◌, map, length, fold, bit_xor, refl}
use Rattle.std.proofs.Common.{zero-le, sym, ap, ap₂, subst, ◌∙◌, arith, lit≤}
use Rattle.std.proofs.Math.Nat.{le-max_left, le-max_right}
use Rattle.std.proofs.lemmas.Nat.{xor_lt}
use Rattle.std.proofs.lemmas.List.{length-map}
use Rattle.hashes.specs.Division.{DivisionFacts, DivisionState, division, division_family, division_hash, division_state, division_step, message_polynomial}
use Rattle.hashes.specs.Family.{Bounded, Key, Lawful, absorbed, hash}
use Rattle.hashes.specs.Irreducible.{Irreducible}
use Rattle.hashes.specs.Lists.{◌∈◌}
use Rattle.hashes.specs.Word.{Bytes, word}
use Rattle.hashes.specs.Bytes.{word_64}
use Rattle.hashes.specs.Counting.{∈_all}
use Rattle.hashes.specs.DivisionLaw.{division_law}
use Rattle.hashes.specs.DivisionSteps.{division_run}
use Rattle.hashes.specs.Keys.{distinct_words, irreducible_taken, reducible_refused}
use Rattle.hashes.specs.Messages.{message_polynomial_injective, message_lt}
use Rattle.hashes.specs.Pairs.{∈_map_source}
use Rattle.hashes.specs.Remainder.{remainder_lt}
use Rattle.hashes.specs.Words.{word_degree, word_pos}

-- ---- the formula

-- only the remainder moves
pub division_absorbed : (p r : ℕ) (m : List ℕ) → absorbed division_family (division_state p r) m ≡ division_state p (fold (division_step 64 p) r m)
division_absorbed p r [] = refl
division_absorbed p r (b ∷ m) = division_absorbed p (division_step 64 p r b) m

division_formula : (key m : List ℕ) → Bytes key → length key ≡ 8 → Bytes m → hash division_family key m ≡ division_hash (word key) m
division_formula key m hk sized h =
    ap (λ (s : DivisionState). s.residue) (division_absorbed (word key) (word key) m) ∙ division_run 64 (word key) m (word_64 key hk sized) h

pub division_facts : DivisionFacts
division_facts = record { formula = division_formula; keys = λ key. irreducible_taken (word key); others = λ key. reducible_refused (word key) }

-- ---- the law

division_lt : (n p M : ℕ) → p < 2 ^ n → division n p M < 2 ^ n
unfolding division
division_lt n p M h = subst (λ (d : ℕ). division n p M < 2 ^ d) (word_degree n p h) (remainder_lt (2 ^ n + p) (word_pos n p) (M * 2 ^ n))

key_word : (key : List ℕ) → Key division_family key → word key < 2 ^ 64
key_word key k = word_64 key k.bytes k.sized

division_words : (key m : List ℕ) → Key division_family key → Bytes m → hash division_family key m < 2 ^ 64
division_words key m k h = rw (division_formula key m k.bytes k.sized h) (division_lt 64 (word key) (message_polynomial m) (key_word key k))

division_bounded : Bounded division_family
division_bounded m n d hm hn ne [] apart all = zero-le
division_bounded m n d hm hn ne (k ∷ ks) apart all = few
  where
    L : ℕ
    L = max (length m) (length n)

    one : (key : List ℕ) → key ∈ (k ∷ ks) → Key division_family key × (bit_xor (hash division_family key m) (hash division_family key n) ≡ d)
    one key i = ∈_all (λ key. Key division_family key × (bit_xor (hash division_family key m) (hash division_family key n) ≡ d)) key (k ∷ ks) all i

    d_lt : d < 2 ^ 64
    d_lt = subst (λ (x : ℕ). x < 2 ^ 64) all.0.1 (xor_lt 64 _ _ (division_words k m all.0.0 hm) (division_words k n all.0.0 hn))

    differ : (w : ℕ) → w ∈ map word (k ∷ ks)
        → (w < 2 ^ 64) × Irreducible (2 ^ 64 + w) × (bit_xor (division 64 w (message_polynomial m)) (division 64 w (message_polynomial n)) ≡ d)
    differ w i =
        let (key, j, e) = ∈_map_source word w (k ∷ ks) i in
        let is = (one key j).0 in
        subst (λ (v : ℕ). (v < 2 ^ 64) × Irreducible (2 ^ 64 + v) × (bit_xor (division 64 v (message_polynomial m)) (division 64 v (message_polynomial n)) ≡ d))
        (sym e) (
          key_word key is,
          (irreducible_taken (word key)).0 is.admitted,
          sym (ap₂ bit_xor (division_formula key m is.bytes is.sized hm) (division_formula key n is.bytes is.sized hn)) ∙ (one key j).1,
        )

    few : length (k ∷ ks) ≤ L / 8 + 1
    few =
        let law = division_law 64 (8 * L) (message_polynomial m) (message_polynomial n) d (λ e. ne (message_polynomial_injective m n hm hn e))
        (message_lt L m hm (le-max_left (length m) (length n))) (message_lt L n hn (le-max_right (length m) (length n))) d_lt
        (map word (k ∷ ks)) (distinct_words 8 (k ∷ ks) apart (λ key i. ((one key i).0.bytes, (one key i).0.sized))) differ in
        let count : length (map word (k ∷ ks)) ≡ length (k ∷ ks) = length-map (k ∷ ks) word in
        omega arith

pub division_lawful : Lawful division_family
division_lawful = record { coded = (lit≤ tt, lit≤ tt); short = lit≤ tt; words = division_words; bounded = division_bounded }
