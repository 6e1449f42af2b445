-- The promise on the seals of two sites, for every family: what lists of calls on new registers
-- come to, and under how few keys the seals of different sites, or the checks of different images,
-- agree.
use Rattle.std.specs.Prelude.{◌≡◌, ℕ, ◌+◌, max, ◌≢◌, ◌↔◌, List, [], ◌∷◌, ◌++◌, map, length, Some, None, bit_xor, Ok, Err}
use Rattle.hashes.specs.Family.{Meaning, AtMost, Key, hash}
use Rattle.hashes.specs.KeyFault.{Answer, answered}
use Rattle.hashes.specs.Word.{Bytes, word}
use Rattle.register.specs.Check.{checked, says}
use Rattle.register.specs.ImageMessage.{MessageOf}
use Rattle.register.specs.Records.{Record, message}
use Rattle.register.specs.Run.{Input, Reply, Run, run}
use Rattle.register.specs.View.{key_of, opening, pad_length, pad_of, sealed}
use Rattle.line_reader.specs.declared.calls.Call.{Call}
use Rattle.line_reader.specs.Calls.{CallsAsk, call_input}

-- the calls, made on a new register, are answered so, and these records are taken
abbrev pub Served : List Call → List Reply → List Record → Type 0
Served calls replies records = (inputs : List Input) × CallsAsk calls inputs × Run [] inputs replies records

-- a key buffer is a string of a key's length, and behind it a pad
pub record KeyAndPad (M : Meaning) (buffer key pad : List ℕ) : Type 0 where
  pub joined : buffer ≡ key ++ pad
  pub key_sized : length key ≡ M.key_len
  pub pad_sized : length pad ≡ pad_length

-- the number that a key buffer is refused by: 1 for one of another length, or its key's
pub data RefusedBuffer (M : Meaning) (buffer : List ℕ) : ℕ → Type 0 where
  other_length : length buffer ≢ M.key_len + pad_length → RefusedBuffer M buffer 1
  no_key : {key pad : List ℕ} {n : ℕ} → KeyAndPad M buffer key pad → M.refusal key ≡ Some n
      → RefusedBuffer M buffer n

-- A register that the key buffer opens gives the calls these replies and closes to this seal: the
-- hash of the message of the records that they take, combined with the pad, bit by bit.
pub record ClosesTo (M : Meaning) (buffer : List ℕ) (calls : List Call)
    (replies : List Reply) (seal : ℕ) : Type 0 where
  pub key : List ℕ
  pub pad : List ℕ
  pub parts : KeyAndPad M buffer key pad
  pub taken : M.refusal key ≡ None
  pub records : List Record
  pub served : Served calls replies records
  pub is : seal ≡ bit_xor (hash M key (message records)) (word pad)

-- replies put into places in order, as far as there are places; the other places stay
abbrev pub placed : List Reply → List Reply → List Reply
placed [] places = places
placed (a ∷ replies) [] = []
placed (a ∷ replies) (p ∷ places) = a ∷ placed replies places

-- What sealing a site comes to: the calls' seal, with their replies in the places; or the number
-- that the key buffer is refused by, with the places as they were.
pub data SealsSite (M : Meaning) (buffer : List ℕ) (calls : List Call) (places : List Reply) :
    Answer ℕ → List Reply → Type 0 where
  refused : {n : ℕ} → RefusedBuffer M buffer n → SealsSite M buffer calls places (Err n) places
  sealed_by : {replies : List Reply} {seal : ℕ} → ClosesTo M buffer calls replies seal
      → SealsSite M buffer calls places (Ok seal) (placed replies places)

-- The same as functions.

abbrev pub replies_of : List Call → List Reply
replies_of calls = (run [] (map call_input calls)).0

abbrev pub records_of : List Call → List Record
records_of calls = (run [] (map call_input calls)).1

-- the seal of the records taken, or the refusal of the buffer
abbrev pub sealing : Meaning → List ℕ → List Call → Answer ℕ
sealing M buffer calls =
    answered (λ _. sealed M (key_of M buffer) (pad_of M buffer) (records_of calls))
    (opening M buffer)

-- the replies that are given: none where the buffer is refused
abbrev pub replies_if : {A : Type 0} → Answer A → List Call → List Reply
replies_if (Ok v) calls = replies_of calls
replies_if (Err n) calls = []

-- the answer, and the places after it
abbrev pub site_sealed : Meaning → List ℕ → List Call → List Reply → Answer ℕ × List Reply
site_sealed M buffer calls places =
    (sealing M buffer calls, placed (replies_if (opening M buffer) calls) places)

-- with this key, the two pads and a word d: the closing seals of two lists of calls, each on a
-- register of its own, differ by d, bit by bit
abbrev pub SealsDiffer : Meaning → List Call → List Call → List ℕ → List ℕ → ℕ → List ℕ → Type 0
SealsDiffer M calls calls' pad pad' d key =
    (replies : List Reply) × (replies' : List Reply) × (seal : ℕ) × (seal' : ℕ)
    × ClosesTo M (key ++ pad) calls replies seal × ClosesTo M (key ++ pad') calls' replies' seal'
    × (bit_xor seal seal' ≡ d)

-- the check of an image by a key and a pad answers 1
abbrev pub AnswersOne : Meaning → List ℕ → List ℕ → List ℕ → Type 0
AnswersOne M key pad image = checked M (key ++ pad) image ≡ says 1

pub record HandoverPromise (M : Meaning) : Type 0 where
  -- the calls alone fix the replies and the records
  pub determined : (calls : List Call) (replies : List Reply) (records : List Record)
      → Served calls replies records ↔ ((replies ≡ replies_of calls) × (records ≡ records_of calls))
  -- key buffer, calls and places fix the answer and the places after it
  pub one_outcome : (buffer : List ℕ) (calls : List Call) (places later : List Reply)
      (answer : Answer ℕ) → SealsSite M buffer calls places answer later
      ↔ ((answer, later) ≡ site_sealed M buffer calls places)
  -- under a key and a pad, calls close to the hash of the message of their records, combined with
  -- the pad
  pub closes : (key pad : List ℕ) (calls : List Call) (replies places : List Reply)
      (rs : List Record) → Key M key → length pad ≡ pad_length → Served calls replies rs
      → SealsSite M (key ++ pad) calls places
      (Ok (bit_xor (hash M key (message rs)) (word pad))) (placed replies places)
  -- Two lists of calls that take different records, the two pads, and a word d: at most B keys make
  -- the closing seals differ by d. B is the bound for the longer message.
  pub seals_apart : (calls calls' : List Call) (replies replies' : List Reply)
      (rs rs' : List Record) (pad pad' : List ℕ) (d : ℕ) → Served calls replies rs
      → Served calls' replies' rs' → rs ≢ rs'
      → AtMost M (M.bound (max (length (message rs)) (length (message rs'))))
      (SealsDiffer M calls calls' pad pad' d)
  -- Two different images, and a pad: at most B keys make the check pass both. B is the bound for
  -- the longer of their messages.
  pub images_apart : (image image' m m' pad : List ℕ)
      → Bytes image → Bytes image' → MessageOf image m → MessageOf image' m' → image ≢ image'
      → AtMost M (M.bound (max (length m) (length m')))
      (λ key. AnswersOne M key pad image × AnswersOne M key pad image')
  -- Two images with different messages, and a pad for each check: at most B keys make both pass.
  pub messages_apart : (image image' m m' pad pad' : List ℕ)
      → Bytes image → Bytes image' → MessageOf image m → MessageOf image' m' → m ≢ m'
      → AtMost M (M.bound (max (length m) (length m')))
      (λ key. AnswersOne M key pad image × AnswersOne M key pad' image')
