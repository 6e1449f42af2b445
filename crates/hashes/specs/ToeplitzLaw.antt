-- The law of the Toeplitz hash, for any width n of a word.
use Rattle.std.specs.Prelude.{◌≡◌, ℕ, ◌+◌, ◌*◌, ◌/◌, ◌^◌, ◌<◌, ◌≤◌, ◌≢◌, ◌⊎◌, List, length, refl}
use Rattle.std.proofs.Common.{sym, ap, ap₂, ◌∙◌, subst, inl, inr, le_trans, le-div_iff_mul-le, arith}
use Rattle.std.specs.Int.Bits.{bit_xor, xor_zero_r}
use Rattle.std.specs.List.{AllByRecursion}
use Rattle.hashes.specs.Lists.{◌∈◌, Distinct}
use Rattle.hashes.specs.Polynomial.{times, degree, Divides, gcd}
use Rattle.hashes.specs.Irreducible.{Irreducible}
use Rattle.hashes.specs.Toeplitz.{lfsr, toeplitz}
use Rattle.hashes.specs.Word.{Bytes}
use Rattle.hashes.specs.Words.{word_degree}
use Rattle.hashes.specs.Divisors.{decide_divides, irreducible_divisor, irreducible_pos, irreducible_divisors, gcd_common}
use Rattle.hashes.specs.Counting.{∈_all, all_from_∈}
use Rattle.hashes.specs.Pairs.{pairs_bound}
use Rattle.hashes.specs.Act.{act, act_one, act_xor, act_times, act_zero_r}
use Rattle.hashes.specs.Lfsr.{lfsr_xor, annul}
use Rattle.hashes.specs.ToeplitzMessage.{bit_polynomial, toeplitz_is, difference_pos, difference_degree}

-- ---- a polynomial acts on the words

toeplitz_difference : (n p s : ℕ) (a b : List ℕ) → bit_xor (toeplitz n p s a) (toeplitz n p s b) ≡ act (lfsr n p) (bit_xor (bit_polynomial a) (bit_polynomial b)) s
toeplitz_difference n p s a b = ap₂ bit_xor (toeplitz_is n p s a) (toeplitz_is n p s b) ∙ sym (act_xor (lfsr n p) (lfsr_xor n p) (bit_polynomial a) (bit_polynomial b) s)

module _ (n p : ℕ) (pos : 1 ≤ n) (p_lt : p < 2 ^ n) where
  -- a multiple of x^n + p annuls every word
  act_multiple : (d s : ℕ) → Divides (2 ^ n + p) d → s < 2 ^ n → act (lfsr n p) d s ≡ 0
  act_multiple d s h l =
      ap (λ (x : ℕ). act (lfsr n p) x s) (sym h.product)
      ∙ act_times (lfsr n p) (lfsr_xor n p) h.quotient (2 ^ n + p) s
      ∙ ap (act (lfsr n p) h.quotient) (annul n p pos p_lt s l)
      ∙ act_zero_r (lfsr n p) (lfsr_xor n p) h.quotient

  -- u inverts d modulo x^n + p, so it undoes d's action
  inverse : (d u v s : ℕ) → 1 ≡ bit_xor (times u d) (times v (2 ^ n + p)) → s < 2 ^ n → act (lfsr n p) u (act (lfsr n p) d s) ≡ s
  inverse d u v s e l =
      sym (act_times (lfsr n p) (lfsr_xor n p) u d s)
      ∙ sym (xor_zero_r (act (lfsr n p) (times u d) s))
      ∙ ap (bit_xor (act (lfsr n p) (times u d) s)) (sym (act_multiple (times v (2 ^ n + p)) s (record { quotient = v; product = refl }) l))
      ∙ sym (act_xor (lfsr n p) (lfsr_xor n p) (times u d) (times v (2 ^ n + p)) s)
      ∙ ap (λ (x : ℕ). act (lfsr n p) x s) (sym e)
      ∙ act_one (lfsr n p) (lfsr_xor n p) s

  module _ (irr : Irreducible (2 ^ n + p)) (d : ℕ) (apart : ¬ Divides (2 ^ n + p) d) where
    coprime : gcd d (2 ^ n + p) ≡ 1
    coprime = go (irreducible_divisor irr (gcd_common d (2 ^ n + p)).right)
      where
        go : (gcd d (2 ^ n + p) ≡ 1) ⊎ (gcd d (2 ^ n + p) ≡ 2 ^ n + p) → gcd d (2 ^ n + p) ≡ 1
        go (inl e) = e
        go (inr e) = absurd (apart (subst (λ (x : ℕ). Divides x d) e (gcd_common d (2 ^ n + p)).left))

    bezout : 1 ≡ bit_xor (times (gcd_common d (2 ^ n + p)).u d) (times (gcd_common d (2 ^ n + p)).v (2 ^ n + p))
    bezout = sym coprime ∙ (gcd_common d (2 ^ n + p)).sum

    act_injective : (s t : ℕ) → s < 2 ^ n → t < 2 ^ n → act (lfsr n p) d s ≡ act (lfsr n p) d t → s ≡ t
    act_injective s t h k e =
        let c = gcd_common d (2 ^ n + p) in
        sym (inverse d c.u c.v s bezout h) ∙ ap (act (lfsr n p) c.u) e ∙ inverse d c.u c.v t bezout k

-- ---- counting keys

-- a key: the taps p of an irreducible x^n + p, and a first state
pub record PairKey (n : ℕ) (k : ℕ × ℕ) : Type 0 where
  pub taps_word : k.0 < 2 ^ n
  pub state_word : k.1 < 2 ^ n
  pub irreducible : Irreducible (2 ^ n + k.0)

-- the hashes of two messages differ by d, bit by bit
abbrev pub Differ : ℕ → ℕ → ℕ → List ℕ → List ℕ → ℕ → Type 0
Differ n p s a b d = bit_xor (toeplitz n p s a) (toeplitz n p s b) ≡ d

-- the taps p for which x^n + p is irreducible and divides d
pub record DividingTaps (n d p : ℕ) : Type 0 where
  pub word : p < 2 ^ n
  pub irreducible : Irreducible (2 ^ n + p)
  pub divides : Divides (2 ^ n + p) d

few_dividing_taps : (n m d : ℕ) → 1 ≤ n → 0 < d → degree d ≤ m → (ps : List ℕ) → Distinct ps → AllByRecursion (DividingTaps n d) ps → length ps ≤ m / n
few_dividing_taps n m d pos d_pos d_le ps dist bad =
    (le-div_iff_mul-le pos).1 (le_trans (irreducible_divisors (λ p. 2 ^ n + p) (λ j k e. omega arith) n d d_pos ps dist each) d_le)
  where
    each : (p : ℕ) → p ∈ ps → Irreducible (2 ^ n + p) × (degree (2 ^ n + p) ≡ n) × Divides (2 ^ n + p) d
    each p m = let b = ∈_all (DividingTaps n d) p ps bad m in (b.irreducible, word_degree n p b.word, b.divides)

-- Messages that are not equal, and have L bytes at most: distinct keys whose hashes of the two have one difference number 2^n (floor(8 L / n) + 1) at most.
pub toeplitz_law : (n : ℕ) → 1 ≤ n → (a b : List ℕ) (L w : ℕ) (ks : List (ℕ × ℕ)) → Bytes a → Bytes b → a ≢ b → length a ≤ L → length b ≤ L
    → Distinct ks → AllByRecursion (λ k. PairKey n k) ks → AllByRecursion (λ k. Differ n k.0 k.1 a b w) ks → length ks ≤ 2 ^ n * (8 * L / n + 1)
toeplitz_law n pos a b L w ks a_bytes b_bytes ne a_le b_le dist keys same =
    pairs_bound (2 ^ n) (8 * L / n) (DividingTaps n d)
    (few_dividing_taps n (8 * L) d pos (difference_pos a b L a_bytes b_bytes ne a_le b_le) (difference_degree a b L a_bytes b_bytes ne a_le b_le))
    ks dist
    (all_from_∈ (λ e. (e.0 < 2 ^ n) × (e.1 < 2 ^ n)) ks (λ e m. ((key e m).taps_word, (key e m).state_word)))
    (all_from_∈ (λ e. DividingTaps n d e.0 ⊎ ((f : ℕ × ℕ) → f ∈ ks → f.0 ≡ e.0 → f ≡ e)) ks
    (λ e m. sides e m (decide_divides (2 ^ n + e.0) d (irreducible_pos (key e m).irreducible))))
  where
    d : ℕ
    d = bit_xor (bit_polynomial a) (bit_polynomial b)

    key : (e : ℕ × ℕ) → e ∈ ks → PairKey n e
    key e m = ∈_all (λ k. PairKey n k) e ks keys m

    acts : (e : ℕ × ℕ) → e ∈ ks → act (lfsr n e.0) d e.1 ≡ w
    acts e m = sym (toeplitz_difference n e.0 e.1 a b) ∙ ∈_all (λ k. Differ n k.0 k.1 a b w) e ks same m

    sides : (e : ℕ × ℕ) → e ∈ ks → Dec (Divides (2 ^ n + e.0) d) → DividingTaps n d e.0 ⊎ ((f : ℕ × ℕ) → f ∈ ks → f.0 ≡ e.0 → f ≡ e)
    sides e m (yes h) = inl (record { word = (key e m).taps_word; irreducible = (key e m).irreducible; divides = h })
    sides e m (no h) =
        inr (λ f k t.
        let s : f.1 ≡ e.1 =
        act_injective n e.0 pos (key e m).taps_word (key e m).irreducible d h f.1 e.1 (key f k).state_word (key e m).state_word
        (ap (λ (x : ℕ). act (lfsr n x) d f.1) (sym t) ∙ acts f k ∙ sym (acts e m)) in
        λ i. (t i, s i))
