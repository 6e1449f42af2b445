-- The evaluation family computes the formula, and keeps the law.
use Rattle.std.specs.Prelude.{◌≡◌, ℕ, ◌+◌, ◌-◌, ◌/◌, ◌^◌, ◌<◌, ◌≤◌, max, Bool, true, false, cond, List, [], ◌∷◌, ◌++◌, map, length, ◌==◌, ◌≢◌, bit_xor}
use Rattle.std.proofs.Common.{zero-le, append_assoc, append-nil, sym, ap, ap₂, subst, ◌∙◌, arith, lit≤, lit<, length-append}
use Rattle.std.proofs.Math.Decide.{ℕ_discrete, dec_le}
use Rattle.std.proofs.Math.Nat.{le-max_left, le-max_right}
use Rattle.std.proofs.lemmas.Nat.{xor_comm, xor_lt}
use Rattle.std.proofs.lemmas.List.{length-map}
use Rattle.hashes.specs.Evaluation.{EvaluationState, EvaluationFacts, evaluation_state, evaluation, evaluation_close, evaluation_family, evaluation_hash, evaluation_next, message_words, modulus, with_word}
use Rattle.hashes.specs.Family.{Bounded, Key, Lawful, hash, absorbed}
use Rattle.hashes.specs.Lists.{◌∈◌, Distinct}
use Rattle.hashes.specs.Polynomial.{degree, times_mod}
use Rattle.hashes.specs.Word.{Bytes, word}
use Rattle.hashes.specs.Bytes.{word_64}
use Rattle.hashes.specs.Counting.{∈_all}
use Rattle.hashes.specs.Divisors.{irreducible_pos}
use Rattle.hashes.specs.Evaluate.{Fit, evaluate, evaluation_horner}
use Rattle.hashes.specs.EvaluationLaw.{evaluation_law}
use Rattle.hashes.specs.EvaluationMessage.{length_words, message_words_cons, message_words_injective, message_words_lt, message_words_short}
use Rattle.hashes.specs.FieldLemmas.{mod_lt}
use Rattle.hashes.specs.Keys.{distinct_words, point_taken, zero_refused}
use Rattle.hashes.specs.Modulus.{modulus_degree, modulus_irreducible}
use Rattle.hashes.specs.Pairs.{∈_map_source}
use Rattle.std.proofs.lemmas.Bool.{eq-eqb, ne_eqb}

-- ---- the formula

pos : 0 < modulus
pos = irreducible_pos modulus_irreducible

below : (x : ℕ) → x < 2 ^ 64 → x < 2 ^ degree modulus
below x h = rw modulus_degree h

-- what is left of the message after the value so far: the pending bytes, and the bytes to come
evaluation_run : (a v : ℕ) (bs m : List ℕ) → length bs < 8
    → evaluation_close (absorbed evaluation_family (evaluation_state a v bs) m) ≡ times_mod modulus (evaluate modulus a v (message_words (bs ++ m))) a
unfolding evaluate
evaluation_run a v bs [] l =
    ap (λ (ws : List ℕ). times_mod modulus (evaluate modulus a v ws) a) (sym (message_words_short bs l) ∙ ap message_words (sym (append-nil bs)))
evaluation_run a v bs (b ∷ m) l = go (λ v bs l. evaluation_run a v bs m l) (ℕ_discrete (length bs) 7)
  where
    more : length (bs ++ (b ∷ [])) ≡ length bs + 1
    more = length-append bs (b ∷ [])

    joined : (bs ++ (b ∷ [])) ++ m ≡ bs ++ (b ∷ m)
    joined = append_assoc bs (b ∷ []) m

    finished : EvaluationState
    finished = evaluation_state a (with_word a v (word (bs ++ (b ∷ [])))) []

    longer : EvaluationState
    longer = evaluation_state a v (bs ++ (b ∷ []))

    next_is : (c : Bool) → (length bs == 7) ≡ c → evaluation_next (evaluation_state a v bs) b ≡ cond c finished longer
    next_is c e = ap (λ (c : Bool). cond c finished longer) e

    go : ((v : ℕ) (bs : List ℕ) → length bs < 8
        → evaluation_close (absorbed evaluation_family (evaluation_state a v bs) m) ≡ times_mod modulus (evaluate modulus a v (message_words (bs ++ m))) a)
        → Dec (length bs ≡ 7)
        → evaluation_close (absorbed evaluation_family (evaluation_next (evaluation_state a v bs) b) m) ≡ times_mod modulus (evaluate modulus a v (message_words (bs ++ (b ∷ m)))) a
    go rest (yes e) =
        ap (λ (s : EvaluationState). evaluation_close (absorbed evaluation_family s m)) (next_is true (eq-eqb (length bs) 7 e))
        ∙ rest (with_word a v (word (bs ++ (b ∷ [])))) [] (lit< tt)
        ∙ ap (λ (ws : List ℕ). times_mod modulus (evaluate modulus a v ws) a)
        (sym (message_words_cons (bs ++ (b ∷ [])) m (more ∙ ap (λ (x : ℕ). x + 1) e)) ∙ ap message_words joined)
    go rest (no n) =
        ap (λ (s : EvaluationState). evaluation_close (absorbed evaluation_family s m)) (next_is false (ne_eqb (length bs) 7 n))
        ∙ rest v (bs ++ (b ∷ [])) (omega (arith, more))
        ∙ ap (λ (bytes : List ℕ). times_mod modulus (evaluate modulus a v (message_words bytes)) a) joined

fit : (m : List ℕ) → Bytes m → Fit modulus (message_words m)
fit m h = rw modulus_degree (message_words_lt m h)

pub evaluation_whole : (a : ℕ) (m : List ℕ) → Bytes m → evaluation_close (absorbed evaluation_family (evaluation_state a 1 []) m) ≡ evaluation_hash a m
evaluation_whole a m h = evaluation_run a 1 [] m (lit< tt) ∙ sym (evaluation_horner modulus pos a (message_words m) (below 1 (lit< tt)) (fit m h))

evaluation_formula : (key m : List ℕ) → Bytes m → hash evaluation_family key m ≡ evaluation_hash (word key) m
evaluation_formula key m h = evaluation_whole (word key) m h

pub evaluation_facts : EvaluationFacts
evaluation_facts = record { formula = evaluation_formula; keys = λ key. point_taken (word key); others = λ key. zero_refused (word key) }

-- ---- the law

evaluation_lt : (a : ℕ) (ws : List ℕ) → evaluation modulus a ws < 2 ^ 64
unfolding evaluation
evaluation_lt a ws = subst (λ (n : ℕ). evaluation modulus a ws < 2 ^ n) modulus_degree (mod_lt modulus pos _ a)

evaluation_words : (key m : List ℕ) → Key evaluation_family key → Bytes m → hash evaluation_family key m < 2 ^ 64
evaluation_words key m k h = rw (evaluation_formula key m h) (evaluation_lt (word key) (message_words m))

-- n is no longer than m
few : (m n : List ℕ) (d : ℕ) → Bytes m → Bytes n → (m ≢ n) → length n ≤ length m → d < 2 ^ 64 → (keys : List (List ℕ)) → Distinct keys
    → ((key : List ℕ) → key ∈ keys → Key evaluation_family key × (bit_xor (hash evaluation_family key m) (hash evaluation_family key n) ≡ d))
    → length keys ≤ length m / 8 + 2
few m n d hm hn ne le d_lt keys apart all =
    let law =
    evaluation_law modulus modulus_irreducible (message_words m) (message_words n) (length m / 8 - length n / 8) d
    (λ e. ne (message_words_injective m n hm hn e)) counts (fit m hm) (fit n hn) (below d d_lt)
    (map word keys) (distinct_words 8 keys apart (λ key i. ((all key i).0.bytes, (all key i).0.sized))) differ in
    let count : length (map word keys) ≡ length keys = length-map keys word in
    omega (arith, law, count, count_m)
  where
    count_m : length (message_words m) ≡ length m / 8 + 1
    count_m = length_words (length m / 8 + 1) _

    count_n : length (message_words n) ≡ length n / 8 + 1
    count_n = length_words (length n / 8 + 1) _

    counts : length (message_words m) ≡ length m / 8 - length n / 8 + length (message_words n)
    counts = omega (arith, count_m, count_n)

    differ : (a : ℕ) → a ∈ map word keys
        → (a < 2 ^ degree modulus) × (bit_xor (evaluation modulus a (message_words m)) (evaluation modulus a (message_words n)) ≡ d)
    differ a i =
        let (key, j, e) = ∈_map_source word a keys i in
        let is = (all key j).0 in
        subst (λ (v : ℕ). (v < 2 ^ degree modulus) × (bit_xor (evaluation modulus v (message_words m)) (evaluation modulus v (message_words n)) ≡ d))
        (sym e) (
          below (word key) (word_64 key is.bytes is.sized),
          sym (ap₂ bit_xor (evaluation_formula key m hm) (evaluation_formula key n hn)) ∙ (all key j).1,
        )

evaluation_bounded : Bounded evaluation_family
evaluation_bounded m n d hm hn ne [] apart all = zero-le
evaluation_bounded m n d hm hn ne (k ∷ ks) apart all = go (dec_le (length n) (length m))
  where
    one : (key : List ℕ) → key ∈ (k ∷ ks) → Key evaluation_family key × (bit_xor (hash evaluation_family key m) (hash evaluation_family key n) ≡ d)
    one key i = ∈_all (λ key. Key evaluation_family key × (bit_xor (hash evaluation_family key m) (hash evaluation_family key n) ≡ d)) key (k ∷ ks) all i

    d_lt : d < 2 ^ 64
    d_lt = subst (λ (x : ℕ). x < 2 ^ 64) all.0.1 (xor_lt 64 _ _ (evaluation_words k m all.0.0 hm) (evaluation_words k n all.0.0 hn))

    go : Dec (length n ≤ length m) → length (k ∷ ks) ≤ max (length m) (length n) / 8 + 2
    go (yes le) =
        let bound = few m n d hm hn ne le d_lt (k ∷ ks) apart one in
        omega (arith, bound, le-max_left (length m) (length n))
    go (no gt) =
        let bound =
        few n m d hn hm (λ e. ne (sym e)) (omega arith) d_lt (k ∷ ks) apart
        (λ key i. ((one key i).0, xor_comm (hash evaluation_family key n) (hash evaluation_family key m) ∙ (one key i).1)) in
        omega (arith, bound, le-max_right (length m) (length n))

pub evaluation_lawful : Lawful evaluation_family
evaluation_lawful = record { coded = (lit≤ tt, lit≤ tt); short = lit≤ tt; words = evaluation_words; bounded = evaluation_bounded }
