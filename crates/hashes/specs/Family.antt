-- What a family of keyed hashes is: what it computes, and the law that it keeps.
use Rattle.std.specs.Prelude.{◌≡◌, ℕ, ◌^◌, ◌<◌, ◌≤◌, max, List, length, None, fold, Option, ◌≢◌, bit_xor}
use Rattle.hashes.specs.Lists.{Distinct}
use Rattle.hashes.specs.Word.{Bytes}
use Rattle.std.specs.List.{AllByRecursion}

-- A family by what it computes. Keys, messages and their parts are byte strings.
pub record Meaning : Type 1 where
  -- what a hash that is under way stands for
  pub State : Type 0
  -- the family's code
  pub code : ℕ
  -- how many bytes a key has
  pub key_len : ℕ
  -- the number that a string of that length is refused by; None says that it is a key
  pub refusal : List ℕ → Option ℕ
  -- the state that a key starts from
  pub first : List ℕ → State
  -- the state after one byte more
  pub next : State → ℕ → State
  -- the word that a state closes to
  pub close : State → ℕ
  -- the bound for messages of at most so many bytes
  pub bound : ℕ → ℕ

-- the state after each byte of a part in order
abbrev pub absorbed : (M : Meaning) → M.State → List ℕ → M.State
absorbed M s part = fold M.next s part

-- the hash of a message under a key
abbrev pub hash : Meaning → List ℕ → List ℕ → ℕ
hash M key message = M.close (absorbed M (M.first key) message)

-- a string that the family takes as a key
pub record Key (M : Meaning) (key : List ℕ) : Type 0 where
  pub bytes : Bytes key
  pub sized : length key ≡ M.key_len
  pub admitted : M.refusal key ≡ None

-- a list without repeats of keys with the property has at most n entries
abbrev pub AtMost : Meaning → ℕ → (List ℕ → Type 0) → Type 0
AtMost M n P = (keys : List (List ℕ)) → Distinct keys → AllByRecursion (λ key. Key M key × P key) keys → length keys ≤ n

-- The law. Any one word is the difference of the hashes of two different messages under `bound L` keys at most, L being the length of the longer message.
abbrev pub Bounded : Meaning → Type 0
Bounded M =
    (m n : List ℕ) (d : ℕ) → Bytes m → Bytes n → (m ≢ n)
    → AtMost M (M.bound (max (length m) (length n))) (λ key. bit_xor (hash M key m) (hash M key n) ≡ d)

-- what each family shows of its meaning
pub record Lawful (M : Meaning) : Type 0 where
  pub coded : (1 ≤ M.code) × (M.code ≤ 15)
  pub short : M.key_len ≤ 64
  pub words : (key m : List ℕ) → Key M key → Bytes m → hash M key m < 2 ^ 64
  pub bounded : Bounded M

-- how many bytes a gather holds back at most
abbrev pub gather_room : ℕ
gather_room = 64
