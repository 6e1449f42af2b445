-- The Toeplitz family computes the formula, and keeps the law.
use Rattle.std.specs.Prelude.{◌≡◌, ℕ, ◌+◌, ◌*◌, ◌/◌, ◌^◌, ◌<◌, ◌≤◌, max, List, ◌++◌, map, length, take, drop, bit_xor}
use Rattle.std.proofs.Common.{sym, ap, ap₂, subst, ◌∙◌, arith, lit≤, length-drop, take-append-drop, length-take-le}
use Rattle.std.proofs.Math.Nat.{le-max_left, le-max_right}
use Rattle.std.proofs.lemmas.List.{length-map}
use Rattle.hashes.specs.Family.{Bounded, Key, Lawful, hash, absorbed}
use Rattle.hashes.specs.Lists.{◌∈◌}
use Rattle.hashes.specs.Toeplitz.{ToeplitzFacts, first_state_of, lfsr, taps_of, toeplitz_family, toeplitz_hash, toeplitz_state}
use Rattle.hashes.specs.Word.{Bytes, word}
use Rattle.hashes.specs.Act.{act_lt}
use Rattle.hashes.specs.Bytes.{word_64, word_injective}
use Rattle.hashes.specs.Counting.{∈_all, all_from_∈}
use Rattle.hashes.specs.Keys.{pair_refused, pair_taken, zero_state_refused}
use Rattle.hashes.specs.Lfsr.{lfsr_lt, lfsr_xor}
use Rattle.hashes.specs.Pairs.{distinct_map}
use Rattle.hashes.specs.ToeplitzLaw.{Differ, PairKey, toeplitz_law}
use Rattle.hashes.specs.ToeplitzMessage.{bit_polynomial, toeplitz_is}
use Rattle.hashes.specs.ToeplitzSteps.{register_after, toeplitz_close, total_after}
use Rattle.std.proofs.ByRecursion.{All-drop, All-map, All-take}

-- ---- the formula

-- byte after byte gives the hash of the whole: the family's step takes in the eight bits of a byte
pub toeplitz_run : (p s : ℕ) (m : List ℕ) → toeplitz_family.close (absorbed toeplitz_family (toeplitz_state p s 0) m) ≡ toeplitz_hash p s m
toeplitz_run p s m =
    ap₂ bit_xor (total_after 64 m (toeplitz_state p s 0)) (register_after 64 m (toeplitz_state p s 0)) ∙ sym (toeplitz_close 64 p s m)

toeplitz_formula : (key m : List ℕ) → hash toeplitz_family key m ≡ toeplitz_hash (taps_of key) (first_state_of key) m
toeplitz_formula key m = toeplitz_run (word (take 8 key)) (word (drop 8 key)) m

pub toeplitz_facts : ToeplitzFacts
toeplitz_facts = record {
  formula = toeplitz_formula;
  keys = λ key. pair_taken (taps_of key) (first_state_of key);
  zeros = λ key. zero_state_refused (taps_of key) (first_state_of key);
  others = λ key. pair_refused (taps_of key) (first_state_of key);
}

-- ---- keys

half_key : (key : List ℕ) → length key ≡ 16 → (length (take 8 key) ≡ 8) × (length (drop 8 key) ≡ 8)
half_key key e = (length-take-le 8 key (omega arith), length-drop 8 key ∙ omega arith)

halves_injective : (j k : List ℕ) → Bytes j → Bytes k → length j ≡ 16 → length k ≡ 16
    → word (take 8 j) ≡ word (take 8 k) → word (drop 8 j) ≡ word (drop 8 k) → j ≡ k
halves_injective j k bj bk lj lk e f =
    sym (take-append-drop 8 j)
    ∙ ap₂ ◌++◌
    (word_injective (take 8 j) (take 8 k) (All-take (λ x. x < 256) 8 j bj) (All-take (λ x. x < 256) 8 k bk) ((half_key j lj).0 ∙ sym (half_key k lk).0) e)
    (word_injective (drop 8 j) (drop 8 k) (All-drop (λ x. x < 256) 8 j bj) (All-drop (λ x. x < 256) 8 k bk) ((half_key j lj).1 ∙ sym (half_key k lk).1) f)
    ∙ take-append-drop 8 k

pair : List ℕ → ℕ × ℕ
pair key = (word (take 8 key), word (drop 8 key))

is_key : (key : List ℕ) → Key toeplitz_family key → PairKey 64 (word (take 8 key), word (drop 8 key))
is_key key k =
    let halves = half_key key k.sized in
    let taps = word_64 (take 8 key) (All-take (λ x. x < 256) 8 key k.bytes) halves.0 in
    record {
      taps_word = taps;
      state_word = word_64 (drop 8 key) (All-drop (λ x. x < 256) 8 key k.bytes) halves.1;
      irreducible =
          ((pair_taken (word (take 8 key)) (word (drop 8 key))).0 k.admitted).1;
    }

-- ---- the law

toeplitz_words : (key m : List ℕ) → Key toeplitz_family key → Bytes m → hash toeplitz_family key m < 2 ^ 64
toeplitz_words key m k h =
    let p = word (take 8 key) in
    rw (toeplitz_formula key m, toeplitz_is 64 p (word (drop 8 key)) m)
    (act_lt (lfsr 64 p) (lfsr_xor 64 p) 64 (lfsr_lt 64 p) (bit_polynomial m) (word (drop 8 key)) (is_key key k).state_word)

toeplitz_bounded : Bounded toeplitz_family
unfolding pair
toeplitz_bounded m n d hm hn ne keys apart all = few
  where
    L : ℕ
    L = max (length m) (length n)

    one : (key : List ℕ) → key ∈ keys → Key toeplitz_family key × (bit_xor (hash toeplitz_family key m) (hash toeplitz_family key n) ≡ d)
    one key i = ∈_all (λ key. Key toeplitz_family key × (bit_xor (hash toeplitz_family key m) (hash toeplitz_family key n) ≡ d)) key keys all i

    differ : (key : List ℕ) → key ∈ keys → Differ 64 (pair key).0 (pair key).1 m n d
    differ key i = sym (ap₂ bit_xor (toeplitz_formula key m) (toeplitz_formula key n)) ∙ (one key i).1

    same : (j k : List ℕ) → j ∈ keys → k ∈ keys → pair j ≡ pair k → j ≡ k
    same j k u v e =
        halves_injective j k (one j u).0.bytes (one k v).0.bytes (one j u).0.sized (one k v).0.sized
        (ap (λ (x : ℕ × ℕ). x.0) e) (ap (λ (x : ℕ × ℕ). x.1) e)

    law : length (map pair keys) ≤ 2 ^ 64 * (8 * L / 64 + 1)
    law =
        toeplitz_law 64 (lit≤ tt) m n L d (map pair keys) hm hn ne (le-max_left (length m) (length n)) (le-max_right (length m) (length n))
        (distinct_map pair keys same apart)
        (All-map (λ k. PairKey 64 k) pair keys (all_from_∈ (λ key. PairKey 64 (pair key)) keys (λ key i. is_key key (one key i).0)))
        (All-map (λ k. Differ 64 k.0 k.1 m n d) pair keys (all_from_∈ (λ key. Differ 64 (pair key).0 (pair key).1 m n d) keys differ))

    few : length keys ≤ 2 ^ 64 * (L / 8 + 1)
    few =
        let count : length (map pair keys) ≡ length keys = length-map keys pair in
        let eighth : 8 * L / 64 ≡ L / 8 = omega arith in
        subst (λ (x : ℕ). x ≤ 2 ^ 64 * (L / 8 + 1)) count (subst (λ (x : ℕ). length (map pair keys) ≤ 2 ^ 64 * (x + 1)) eighth law)

pub toeplitz_lawful : Lawful toeplitz_family
toeplitz_lawful = record { coded = (lit≤ tt, lit≤ tt); short = lit≤ tt; words = toeplitz_words; bounded = toeplitz_bounded }
