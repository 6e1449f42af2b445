-- The evaluation hash: the message's words as the coefficients of a polynomial over the field of the residues modulo
-- x^64 + x^4 + x^3 + x + 1, evaluated at the key's point.
use Rattle.std.specs.Prelude.{◌≡◌, ℕ, zero, suc, ◌+◌, ◌-◌, ◌*◌, ◌/◌, ◌%◌, ◌^◌, cond, ◌≢◌, ◌↔◌, List, [], ◌∷◌, ◌++◌, length, take, drop, replicate, Some, None, ◌==◌, bit_xor}
use Rattle.hashes.specs.Family.{Meaning, hash}
use Rattle.hashes.specs.Field.{powers_sum}
use Rattle.hashes.specs.KeyFault.{zero_refusal}
use Rattle.hashes.specs.Polynomial.{times_mod}
use Rattle.hashes.specs.Word.{Bytes, word}

-- (a^k + w_0 a^(k-1) + .. + w_(k-1)) a modulo f, for k words
unfoldable pub evaluation : ℕ → ℕ → List ℕ → ℕ
evaluation f a ws = times_mod f (powers_sum f a (1 ∷ ws)) a

-- the message, 80, and then 00 to a multiple of eight bytes
abbrev pub padded : List ℕ → List ℕ
padded m = m ++ (0x80 ∷ replicate (7 - length m % 8) 0)

-- the first k words of eight bytes
unfoldable pub words : ℕ → List ℕ → List ℕ
words zero bs = []
words (suc k) bs = word (take 8 bs) ∷ words k (drop 8 bs)

-- the words of a padded message: one more than it has whole words
abbrev pub message_words : List ℕ → List ℕ
message_words m = words (length m / 8 + 1) (padded m)

-- x^64 + x^4 + x^3 + x + 1
abbrev pub modulus : ℕ
modulus = 2 ^ 64 + 0x1B

-- the hash of a message at any point
abbrev pub evaluation_hash : ℕ → List ℕ → ℕ
evaluation_hash a m = evaluation modulus a (message_words m)

-- ---- the family

-- between two bytes: the point, the value of the words so far, and the bytes of the unfinished word
pub record EvaluationState : Type 0 where
  pub point : ℕ
  pub value : ℕ
  pub pending : List ℕ

abbrev pub evaluation_state : ℕ → ℕ → List ℕ → EvaluationState
evaluation_state a v bs = record { point = a; value = v; pending = bs }

-- Horner's rule: the value times the point, and the next word
abbrev pub with_word : ℕ → ℕ → ℕ → ℕ
with_word a v w = bit_xor (times_mod modulus v a) w

-- one byte more: the eighth finishes a word
abbrev pub evaluation_next : EvaluationState → ℕ → EvaluationState
evaluation_next s b =
    cond (length s.pending == 7)
    (evaluation_state s.point (with_word s.point s.value (word (s.pending ++ (b ∷ [])))) [])
    (evaluation_state s.point s.value (s.pending ++ (b ∷ [])))

-- the padding finishes the last word
abbrev pub evaluation_close : EvaluationState → ℕ
evaluation_close s = times_mod modulus (with_word s.point s.value (word (padded s.pending))) s.point

-- The first value is the leading 1.
abbrev pub evaluation_family : Meaning
evaluation_family = record {
  State = EvaluationState;
  code = 3;
  key_len = 8;
  refusal = λ key. zero_refusal (word key);
  first = λ key. evaluation_state (word key) 1 [];
  next = evaluation_next;
  close = evaluation_close;
  bound = λ L. L / 8 + 2;
}

-- ---- a product by half bytes

-- the lower halves of the lowest n bytes of v, each where it stands
unfoldable pub lower_halves : ℕ → ℕ → ℕ
lower_halves zero v = 0
lower_halves (suc n) v = bit_xor (lower_halves n v) (v / 2 ^ (8 * n) % 16 * 2 ^ (8 * n))

-- ---- the facts

-- what the family comes to
pub record EvaluationFacts : Type 0 where
  -- its hash is the formula
  pub formula : (key m : List ℕ) → Bytes m → hash evaluation_family key m ≡ evaluation_hash (word key) m
  -- its keys are the points other than zero, which is refused by 2
  pub keys : (key : List ℕ) → (evaluation_family.refusal key ≡ None) ↔ (word key ≢ 0)
  pub others : (key : List ℕ) → (evaluation_family.refusal key ≡ Some 2) ↔ (word key ≡ 0)
