-- Runs of a register: what a sequence of calls answers, and which records it takes.
use Rattle.std.specs.Prelude.{ℕ, List, [], ◌∷◌, ◌++◌, length, Some, None, Option}
use Rattle.register.specs.declared.fault.RecordFault.{RecordFault}
use Rattle.register.specs.Records.{Record, message}
use Rattle.register.specs.Faults.{number_of_record_fault}
use Rattle.register.specs.Book.{Refused, Accepted}
use Rattle.register.specs.Known.{first_fault}

-- What a call asks for: a record; nothing, as a blank line does; or a line that cannot be read, by the fault's number and column.
pub data Input : Type 0 where
  a_record : Record → Input
  no_record : Input
  unread : (number column : ℕ) → Input

-- What a call answers: the length of the message after it, or the number and column of its refusal.
pub data Reply : Type 0 where
  taken : (message_length : ℕ) → Reply
  refused : (number column : ℕ) → Reply

-- One call: the records before it, what it asks for, its reply, and the records after it.
pub data Step (before : List Record) : Input → Reply → List Record → Type 0 where
  takes : {r : Record} → Accepted before r → Step before (a_record r) (taken (length (message (before ++ (r ∷ []))))) (before ++ (r ∷ []))
  refuses : {r : Record} {f : RecordFault} → Refused before r f → Step before (a_record r) (refused (number_of_record_fault f) 0) before
  skips : Step before no_record (taken (length (message before))) before
  rejects : {n column : ℕ} → Step before (unread n column) (refused n column) before

-- Calls one after the other.
pub data Run : List Record → List Input → List Reply → List Record → Type 0 where
  ends : {before : List Record} → Run before [] [] before
  calls : {before between after : List Record} {input : Input} {inputs : List Input} {reply : Reply} {replies : List Reply} →
      Step before input reply between → Run between inputs replies after → Run before (input ∷ inputs) (reply ∷ replies) after

-- The same as functions.

abbrev pub step_by : List Record → Record → Option RecordFault → Reply × List Record
step_by before r None = (taken (length (message (before ++ (r ∷ [])))), before ++ (r ∷ []))
step_by before r (Some f) = (refused (number_of_record_fault f) 0, before)

abbrev pub step : List Record → Input → Reply × List Record
step before (a_record r) = step_by before r (first_fault before r)
step before no_record = (taken (length (message before)), before)
step before (unread n column) = (refused n column, before)

abbrev pub run : List Record → List Input → List Reply × List Record
run before [] = ([], before)
run before (input ∷ inputs) =
    let s = step before input in
    let later = run s.1 inputs in
    (s.0 ∷ later.0, later.1)
