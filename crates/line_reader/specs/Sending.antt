-- What making calls on a new register, or sending it the lines of a text, leaves.
use Rattle.std.specs.Prelude.{◌≡◌, ℕ, List, [], length, replicate, Ok, Err, Result}
use Rattle.hashes.specs.Family.{Meaning}
use Rattle.register.specs.Facts.{RegisterFacts}
use Rattle.register.specs.Records.{Record, message}
use Rattle.register.specs.Run.{Reply}
use Rattle.register.specs.View.{View, key_of, opening, pad_of, sealed, standing}
use Rattle.register.specs.Writing.{Holds}
use Rattle.line_reader.specs.declared.calls.Call.{Call}
use Rattle.line_reader.specs.declared.fault.MakeFault.{MakeFault}
use Rattle.line_reader.specs.Handover.{placed, records_of, replies_of}
use Rattle.line_reader.specs.MakeFaults.{number_of_make_fault, line_and_column_of_make_fault}
use Rattle.line_reader.specs.Making.{Making, Sent, all_taken, sent, stopped}
use Rattle.line_reader.specs.Texts.{lines_of}

-- Each record here speaks of a register by what `RegisterFacts` says of its calls.

-- From a register v the calls lead to w, and from the places as they were to those that hold the replies.
pub record MakesCalls (M : Meaning) (v w : View M) (calls : List Call) (places later : List Reply) : Type 0 where
  pub makes : RegisterFacts M → (key : List ℕ) (pad : ℕ) → v ≡ standing M key pad []
      → (w ≡ standing M key pad (records_of calls)) × (later ≡ placed (replies_of calls) places)

-- All lines are taken, the register stands for their records, and the output holds their message; or a line is refused.
abbrev pub LinesSent : (M : Meaning) → List ℕ → ℕ → List ℕ → Result (Unit {0}) MakeFault → View M → ℕ → List ℕ → Type 0
LinesSent M key pad text (Ok u) w room out =
    (rs : List Record) × (sent [] (lines_of text) 1 ≡ all_taken rs) × (w ≡ standing M key pad rs) × Holds room rs out
LinesSent M key pad text (Err f) w room out =
    sent [] (lines_of text) 1
    ≡ stopped (number_of_make_fault f)
    (line_and_column_of_make_fault f).0 (line_and_column_of_make_fault f).1

-- From a register v and an output of zeros to a register w and the output later.
pub record SendsLines (M : Meaning) (v : View M) (text : List ℕ) (r : Result (Unit {0}) MakeFault) (w : View M) (out later : List ℕ) : Type 0 where
  pub sends : RegisterFacts M → (key : List ℕ) (pad : ℕ) → v ≡ standing M key pad []
      → out ≡ replicate (length out) 0 → LinesSent M key pad text r w (length out) later

-- a text is refused by a number, at a line and a column: its key buffer is, or one of its lines
pub data RefusedText (M : Meaning) (buffer text : List ℕ) : ℕ → ℕ × ℕ → Type 0 where
  by_buffer : {n : ℕ} → opening M buffer ≡ Err n → RefusedText M buffer text n (0, 0)
  by_line : {n : ℕ} {place : ℕ × ℕ} {v : View M} → Ok v ≡ opening M buffer
      → sent [] (lines_of text) 1 ≡ stopped n place.0 place.1 → RefusedText M buffer text n place

-- All lines are taken: the answer is the length of their message with the seal, and the output
-- holds the message. Or the text is refused.
abbrev pub TextSent : (M : Meaning) → (buffer text : List ℕ) → Result (ℕ × ℕ) MakeFault → ℕ → List ℕ
    → Type 0
TextSent M buffer text (Ok a) room out =
    (v : View M) × (Ok v ≡ opening M buffer)
    × (rs : List Record) × (sent [] (lines_of text) 1 ≡ all_taken rs)
    × (a ≡ (length (message rs), sealed M (key_of M buffer) (pad_of M buffer) rs))
    × Holds room rs out
TextSent M buffer text (Err f) room out =
    RefusedText M buffer text (number_of_make_fault f) (line_and_column_of_make_fault f)

-- From a key buffer and an output of zeros to the output later.
pub record SendsText (M : Meaning) (buffer text : List ℕ) (r : Result (ℕ × ℕ) MakeFault)
    (out later : List ℕ) : Type 0 where
  pub sends : out ≡ replicate (length out) 0 → TextSent M buffer text r (length out) later

-- an answer by its numbers, and the output as it is once a refusal has wiped it
abbrev pub wiped : Result ℕ MakeFault → List ℕ → Making
wiped (Ok n) out = (Ok n, out)
wiped (Err f) out = (Err (number_of_make_fault f, line_and_column_of_make_fault f), replicate (length out) 0)
