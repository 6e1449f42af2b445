-- What a register stands for, what a call on it answers, and what the call leaves.
use Rattle.std.specs.Prelude.{◌≡◌, ℕ, ◌+◌, cond, List, [], length, take, drop, Some, None, Ok, Err, Option, Result, ◌==◌, bit_xor}
use Rattle.hashes.specs.Family.{Meaning, absorbed, hash}
use Rattle.hashes.specs.KeyFault.{Answer, judged}
use Rattle.hashes.specs.Word.{word}
use Rattle.register.specs.declared.fault.RecordFault.{RecordFault}
use Rattle.register.specs.Faults.{number_of_record_fault}
use Rattle.register.specs.Records.{Record, field_of, bytes_of, field_length, message}
use Rattle.register.specs.Run.{Reply, taken, refused}
use Rattle.register.specs.Known.{Known, known_of, with_record, first_fault_by}

-- The state of the family, the pad, and what is known of the records taken.
pub record View (M : Meaning) : Type 0 where
  pub state : M.State
  pub pad : ℕ
  pub known : Known

-- a register of this key and pad that took these records
abbrev pub standing : (M : Meaning) → List ℕ → ℕ → List Record → View M
standing M key pad rs = record { state = absorbed M (M.first key) (message rs); pad = pad; known = known_of rs }

-- an answer of the code by its number; the column is 0
abbrev pub reply_of : Result ℕ RecordFault → Reply
reply_of (Ok n) = taken n
reply_of (Err f) = refused (number_of_record_fault f) 0

-- what a call with a record answers: the length of the message after it, or the fault's number
abbrev pub reply_by : Known → Record → Option RecordFault → Reply
reply_by known r None = taken (known.bytes + field_length r)
reply_by known r (Some f) = refused (number_of_record_fault f) 0

abbrev pub reply : (M : Meaning) → View M → Record → Reply
reply M v r = reply_by v.known r (first_fault_by v.known r)

-- what it leaves: the record's field is hashed and the record is in the book, or all is as it was
abbrev pub after_by : (M : Meaning) → View M → Record → Option RecordFault → View M
after_by M v r None = record { state = absorbed M v.state (bytes_of (field_of r)); pad = v.pad; known = with_record v.known r }
after_by M v r (Some f) = v

abbrev pub after : (M : Meaning) → View M → Record → View M
after M v r = after_by M v r (first_fault_by v.known r)

-- after a refusal the value itself is as it was
abbrev pub Keeps : {R A E : Type 0} → Result A E → R → R → Type 0
Keeps (Ok a) entry exit = Unit {0}
Keeps (Err f) entry exit = exit ≡ entry

-- the seal of a register: the word that its state closes to, combined with the pad, bit by bit
abbrev pub seal : (M : Meaning) → View M → ℕ
seal M v = bit_xor (M.close v.state) v.pad

-- the seal of records: the hash of their message, combined with the pad
abbrev pub sealed : Meaning → List ℕ → ℕ → List Record → ℕ
sealed M key pad rs = bit_xor (hash M key (message rs)) pad

-- the length of the pad, which stands behind the key in a key buffer
abbrev pub pad_length : ℕ
pad_length = 8

-- a key buffer is a key, and then the pad
abbrev pub key_of : Meaning → List ℕ → List ℕ
key_of M buffer = take M.key_len buffer

abbrev pub pad_of : Meaning → List ℕ → ℕ
pad_of M buffer = word (drop M.key_len buffer)

-- what opening a key buffer answers: a register that took no record, or the number of a refusal
abbrev pub opening : (M : Meaning) → List ℕ → Answer (View M)
opening M buffer =
    cond (length buffer == M.key_len + pad_length)
    (judged (standing M (key_of M buffer) (pad_of M buffer) []) (M.refusal (key_of M buffer)))
    (Err 1)
