-- What holds of the definitions: the functions give what the relations say, and no relation has two outcomes; and how rarely seals and images agree.
use Rattle.std.specs.Prelude.{◌≡◌, ℕ, ◌+◌, ◌≤◌, max, ◌≢◌, ◌↔◌, List, [], ◌∷◌, ◌++◌, length, take, Some, None, bit_xor, Ok}
use Rattle.hashes.specs.Family.{Meaning, AtMost}
use Rattle.hashes.specs.Word.{Bytes}
use Rattle.register.specs.declared.fault.RecordFault.{RecordFault}
use Rattle.register.specs.Records.{Record, zone, message}
use Rattle.register.specs.Book.{ZoneName, InRange, Refused, Accepted, BookRecords, longest_message, longest_name}
use Rattle.register.specs.Known.{first_fault}
use Rattle.register.specs.Run.{Input, Reply, Step, Run, step, run}
use Rattle.register.specs.View.{View, standing, reply, after, sealed, pad_length, key_of, pad_of, opening}
use Rattle.register.specs.Writing.{put, filled_up, Holds, output_after}
use Rattle.register.specs.Inputs.{input_reply, input_after, input_output}
use Rattle.register.specs.Image.{Unframed, FramingFault, Outcome, Checks, check}
use Rattle.register.specs.ImageMessage.{BeforeSeal, MessageOf, message_of}
use Rattle.register.specs.Check.{Passes, checked, says}

pub record RegisterFacts (M : Meaning) : Type 0 where
  -- the function `first_fault` gives the first row that fits, or none
  pub rows_agree : (before : List Record) (r : Record) (f : RecordFault) → (first_fault before r ≡ Some f) ↔ Refused before r f
  pub none_agrees : (before : List Record) (r : Record) → (first_fault before r ≡ None) ↔ Accepted before r
  -- the numbers and the name of a record that a book takes
  pub accepted_in_range : (before : List Record) (r : Record) → Accepted before r → InRange r
  pub accepted_name : (before : List Record) (n : ℕ) (name : List ℕ) → Accepted before (zone n name) → ZoneName name
  -- every list of inputs has a run, which `run` gives, and no other
  pub runs_agree : (before : List Record) (inputs : List Input) → Run before inputs (run before inputs).0 (run before inputs).1
  pub one_run : (before after : List Record) (inputs : List Input) (replies : List Reply) → Run before inputs replies after → run before inputs ≡ (replies, after)
  -- one call has a step, which `step` gives
  pub steps_agree : (before : List Record) (input : Input) →
      Step before input (step before input).0 (step before input).1
  -- one call more
  pub runs_extend : (before : List Record) (inputs : List Input) (input : Input) →
      run before (inputs ++ (input ∷ [])) ≡ ((run before inputs).0 ++ ((step (run before inputs).1 input).0 ∷ []), (step (run before inputs).1 input).1)
  -- the records of a new register are a book's, and their message is within its limit
  pub runs_book : (inputs : List Input) (replies : List Reply) (rs : List Record) → Run [] inputs replies rs → BookRecords rs × (length (message rs) ≤ longest_message)
  -- the message of a book's records is a byte string, and within its limit
  pub book_bytes : (rs : List Record) → BookRecords rs → Bytes (message rs)
  pub book_fits : (rs : List Record) → BookRecords rs → length (message rs) ≤ longest_message
  -- a buffer that opens a register is a key, which no refusal fits, and a pad
  pub opens_key : (buffer : List ℕ) (v : View M) → Ok v ≡ opening M buffer
      → (length buffer ≡ M.key_len + pad_length) × (M.refusal (key_of M buffer) ≡ None)
  -- a register that opens has the key and the pad of the buffer, and took no record
  pub opens_new : (buffer : List ℕ) (v : View M) → Ok v ≡ opening M buffer → v ≡ standing M (key_of M buffer) (pad_of M buffer) []
  -- a call on a register that took records is a step of a run
  pub calls_follow : (key : List ℕ) (pad : ℕ) (before : List Record) (input : Input) →
      (later : List Record) × Step before input (input_reply M (standing M key pad before) input) later
      × (input_after M (standing M key pad before) input ≡ standing M key pad later)
  -- it replies and leaves what `step` gives
  pub calls_reply : (key : List ℕ) (pad : ℕ) (before : List Record) (input : Input) →
      input_reply M (standing M key pad before) input ≡ (step before input).0
  pub calls_leave : (key : List ℕ) (pad : ℕ) (before : List Record) (input : Input) →
      input_after M (standing M key pad before) input ≡ standing M key pad (step before input).1
  -- an output that holds the message and then zeros does so after each call, and after bytes put there
  pub outputs_follow : (key : List ℕ) (pad room : ℕ) (before : List Record) (input : Input) (out : List ℕ) →
      Holds room before out → Holds room (step before input).1 (input_output M (standing M key pad before) input out)
  pub put_more : (room : ℕ) (m xs out : List ℕ) → length (m ++ xs) ≤ room → out ≡ filled_up room m → put out (length m) xs ≡ filled_up room (m ++ xs)
  -- different records have different messages
  pub message_injective : (rs ss : List Record) → message rs ≡ message ss → rs ≡ ss
  -- an image has one outcome of its check, which `check` gives
  pub check_agrees : (code : ℕ) (image : List ℕ) → Bytes image → Checks code [] image 0 (check code image)
  pub one_check : (code : ℕ) (image : List ℕ) (o : Outcome) → Bytes image → Checks code [] image 0 o → check code image ≡ o
  -- the check's verdict is 1 at the images that it passes, and at no others
  pub passes_agree : (buffer image : List ℕ) → Bytes image →
      (checked M buffer image ≡ says 1) ↔ Passes M buffer image
  -- bytes begin with no field of an image for one of three causes
  pub framing_agrees : (bytes : List ℕ) → Bytes bytes → Unframed bytes ↔ FramingFault bytes
  -- an image's message is what stands before its first seal field, whatever numbers those are
  pub message_before : (image m : List ℕ) → BeforeSeal image m → message_of image ≡ m
  -- and an image without one is its own message
  pub message_whole : (image : List ℕ) → Bytes image → ((m : List ℕ) → ¬ BeforeSeal image m)
      → message_of image ≡ image
  -- an image has one message, which `message_of` gives
  pub message_agrees : (image m : List ℕ) → Bytes image → (message_of image ≡ m) ↔ MessageOf image m
  -- of a name that is too long its first bytes, one more than a name may have, decide what a call
  -- does
  pub long_name : (v : View M) (n : ℕ) (name out : List ℕ) →
      let front = take (longest_name + 1) name in
      (reply M v (zone n front) ≡ reply M v (zone n name))
      × (after M v (zone n front) ≡ after M v (zone n name))
      × (output_after M v (zone n front) out ≡ output_after M v (zone n name) out)

pub record SealBounds (M : Meaning) : Type 0 where
  -- different records of two books: at most `bound` keys make their seals differ by d, whatever the pads
  pub seals : (rs ss : List Record) (pad_r pad_s d : ℕ) → BookRecords rs → BookRecords ss → rs ≢ ss
      → AtMost M (M.bound (max (length (message rs)) (length (message ss)))) (λ key. bit_xor (sealed M key pad_r rs) (sealed M key pad_s ss) ≡ d)
  -- different images: under at most `bound` keys the check passes both with the same pad bytes
  pub images : (i j pad : List ℕ) → Bytes i → Bytes j → i ≢ j
      → AtMost M (M.bound (max (length (message_of i)) (length (message_of j)))) (λ key. Passes M (key ++ pad) i × Passes M (key ++ pad) j)

-- images with different messages: under at most `bound` keys the check passes both, each with its own pad bytes
pub record MessageBounds (M : Meaning) : Type 0 where
  pub messages : (i j pad_i pad_j : List ℕ) → Bytes i → Bytes j → message_of i ≢ message_of j
      → AtMost M (M.bound (max (length (message_of i)) (length (message_of j)))) (λ key. Passes M (key ++ pad_i) i × Passes M (key ++ pad_j) j)
