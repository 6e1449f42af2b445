-- The division hash: the message's polynomial times x^64, modulo the polynomial x^64 + p.
use Rattle.std.specs.Prelude.{◌≡◌, ℕ, ◌+◌, ◌*◌, ◌/◌, ◌^◌, ◌↔◌, List, length, Some, None, bit_xor}
use Rattle.hashes.specs.Family.{Meaning, hash}
use Rattle.hashes.specs.Irreducible.{Irreducible}
use Rattle.hashes.specs.KeyFault.{reducible_refusal}
use Rattle.hashes.specs.Polynomial.{remainder}
use Rattle.hashes.specs.Word.{Bytes, word}

-- the polynomial of a message of L bytes: a leading one at x^(8L), and below it the bytes, each byte's top bit first
abbrev pub message_polynomial : List ℕ → ℕ
message_polynomial m = 2 ^ (8 * length m) + word m

-- M(x) x^n modulo x^n + p
unfoldable pub division : ℕ → ℕ → ℕ → ℕ
division n p M = remainder (M * 2 ^ n) (2 ^ n + p)

-- the hash of a message for any word p
abbrev pub division_hash : ℕ → List ℕ → ℕ
division_hash p m = division 64 p (message_polynomial m)

-- the remainder so far, moved on by one byte: times x^8, and the byte times x^n added
unfoldable pub division_step : ℕ → ℕ → ℕ → ℕ → ℕ
division_step n p residue b = remainder (bit_xor (residue * 2 ^ 8) (b * 2 ^ n)) (2 ^ n + p)

-- ---- the family

-- between two bytes: the key's word, and the remainder so far
pub record DivisionState : Type 0 where
  pub p : ℕ
  pub residue : ℕ

abbrev pub division_state : ℕ → ℕ → DivisionState
division_state p residue = record { p = p; residue = residue }

-- The first remainder is that of the leading one: x^64 modulo x^64 + p is p.
abbrev pub division_family : Meaning
division_family = record {
  State = DivisionState;
  code = 1;
  key_len = 8;
  refusal = λ key. reducible_refusal (word key);
  first = λ key. division_state (word key) (word key);
  next = λ s b. division_state s.p (division_step 64 s.p s.residue b);
  close = λ s. s.residue;
  bound = λ L. L / 8 + 1;
}

-- what the family comes to
pub record DivisionFacts : Type 0 where
  -- its hash is the formula
  pub formula : (key m : List ℕ) → Bytes key → length key ≡ 8 → Bytes m → hash division_family key m ≡ division_hash (word key) m
  -- its keys are the irreducible polynomials, and every other string is refused by 3
  pub keys : (key : List ℕ) → (division_family.refusal key ≡ None) ↔ Irreducible (2 ^ 64 + word key)
  pub others : (key : List ℕ) → (division_family.refusal key ≡ Some 3) ↔ (Irreducible (2 ^ 64 + word key) → ⊥)
