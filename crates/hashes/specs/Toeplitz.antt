-- The Toeplitz hash: the bitwise sum of the states of a linear feedback shift register at the message's ones.
-- A word of n bits is a number below 2 ^ n, its bit at place i worth 2 ^ i.
use Rattle.std.specs.Prelude.{◌≡◌, ℕ, zero, suc, ◌+◌, ◌*◌, ◌/◌, ◌%◌, ◌^◌, cond, ◌≢◌, ◌↔◌, List, [], ◌∷◌, ◌++◌, take, drop, Some, None, Option, ◌==◌, bit_and, bit_xor, count_ones}
use Rattle.hashes.specs.Family.{Meaning, hash}
use Rattle.hashes.specs.Irreducible.{Irreducible}
use Rattle.hashes.specs.KeyFault.{reducible_refusal}
use Rattle.hashes.specs.Word.{word}

-- the bit of a worth 2 ^ i
unfoldable pub bit : ℕ → ℕ → ℕ
bit a i = a / 2 ^ i % 2

-- one where an odd number of a's bits are one
unfoldable pub parity : ℕ → ℕ
parity a = count_ones a % 2

-- the register's next state under the taps p: the parity of the tapped bits comes in above the word, and the lowest bit goes out
unfoldable pub lfsr : ℕ → ℕ → ℕ → ℕ
lfsr n p s = bit_xor s (parity (bit_and s p) * 2 ^ n) / 2

-- the state S_j, from S_0 = s
unfoldable pub state : ℕ → ℕ → ℕ → ℕ → ℕ
state n p s zero = s
state n p s (suc j) = lfsr n p (state n p s j)

-- the k lowest bits of a, the highest of them first
unfoldable pub bits : ℕ → ℕ → List ℕ
bits zero a = []
bits (suc k) a = bit a k ∷ bits k a

-- the bits of bytes, each byte's top bit first
unfoldable pub byte_bits : List ℕ → List ℕ
byte_bits [] = []
byte_bits (b ∷ bs) = bits 8 b ++ byte_bits bs

-- the message's bits M_0, M_1, ..: those of its bytes, and a closing one
unfoldable pub message_bits : List ℕ → List ℕ
message_bits m = byte_bits m ++ (1 ∷ [])

-- the sum of the states S_(j + i), bit by bit, i being the places of the list's ones
unfoldable pub chosen : ℕ → ℕ → ℕ → ℕ → List ℕ → ℕ
chosen n p s j [] = 0
chosen n p s j (d ∷ ds) = bit_xor (d * state n p s j) (chosen n p s (suc j) ds)

-- the states at the places where the message has a one, added up
unfoldable pub toeplitz : ℕ → ℕ → ℕ → List ℕ → ℕ
toeplitz n p s m = chosen n p s 0 (message_bits m)

-- the hash of a message for any words p and s
abbrev pub toeplitz_hash : ℕ → ℕ → List ℕ → ℕ
toeplitz_hash p s m = toeplitz 64 p s m

-- ---- the family

-- between two bytes: the taps, the register S_j, and the sum of the states chosen so far
pub record ToeplitzState : Type 0 where
  pub taps : ℕ
  pub register : ℕ
  pub total : ℕ

abbrev pub toeplitz_state : ℕ → ℕ → ℕ → ToeplitzState
toeplitz_state p s total = record { taps = p; register = s; total = total }

-- one byte more
abbrev pub toeplitz_next : ToeplitzState → ℕ → ToeplitzState
toeplitz_next r b =
    toeplitz_state r.taps (state 64 r.taps r.register 8) (bit_xor r.total (chosen 64 r.taps r.register 0 (bits 8 b)))

-- the two words of a key: the polynomial's, and then the first state
abbrev pub taps_of : List ℕ → ℕ
taps_of key = word (take 8 key)

abbrev pub first_state_of : List ℕ → ℕ
first_state_of key = word (drop 8 key)

-- 2 where the first state is zero, otherwise 3 where x^64 + p is not irreducible
abbrev pub toeplitz_refusal : ℕ → ℕ → Option ℕ
toeplitz_refusal p s = cond (s == 0) (Some 2) (reducible_refusal p)

abbrev pub toeplitz_family : Meaning
toeplitz_family = record {
  State = ToeplitzState;
  code = 2;
  key_len = 16;
  refusal = λ key. toeplitz_refusal (taps_of key) (first_state_of key);
  first = λ key. toeplitz_state (taps_of key) (first_state_of key) 0;
  next = toeplitz_next;
  -- the closing one chooses the register
  close = λ r. bit_xor r.total r.register;
  bound = λ L. 2 ^ 64 * (L / 8 + 1);
}

-- what the family comes to
pub record ToeplitzFacts : Type 0 where
  -- its hash is the formula
  pub formula : (key m : List ℕ) → hash toeplitz_family key m ≡ toeplitz_hash (taps_of key) (first_state_of key) m
  -- its keys are the irreducible polynomials with a first state other than zero; a zero state is refused by 2, any other string by 3
  pub keys : (key : List ℕ)
      → (toeplitz_family.refusal key ≡ None) ↔ ((first_state_of key ≢ 0) × Irreducible (2 ^ 64 + taps_of key))
  pub zeros : (key : List ℕ) → (toeplitz_family.refusal key ≡ Some 2) ↔ (first_state_of key ≡ 0)
  pub others : (key : List ℕ)
      → (toeplitz_family.refusal key ≡ Some 3) ↔ ((first_state_of key ≢ 0) × (Irreducible (2 ^ 64 + taps_of key) → ⊥))
