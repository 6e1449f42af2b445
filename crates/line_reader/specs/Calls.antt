-- What a call asks of a register, and a line's answer by its number and column.
use Rattle.std.specs.Prelude.{◌≡◌, ℕ, ◌↔◌, List, [], ◌∷◌, Ok, Err, Result}
use Rattle.std.specs.Borrow.{Bor}
use Rattle.register.specs.Faults.{number_of_record_fault}
use Rattle.register.specs.Records as records
use Rattle.register.specs.Run.{Input, a_record, no_record, unread, Reply, taken, refused}
use Rattle.line_reader.specs.declared.calls.Call.{Call}
use Rattle.line_reader.specs.declared.calls.Call.TheVariants.{Line, Zone, Point, Rule}
use Rattle.line_reader.specs.declared.fault.LineFault.{LineFault}
use Rattle.line_reader.specs.declared.fault.LineFault.TheVariants.{Read, Record}
use Rattle.line_reader.specs.declared.fault.ReadFault.{ReadFault}
use Rattle.line_reader.specs.Numbers.{number_of_read_fault}
use Rattle.line_reader.specs.Grammar.{Faulty, Name, Sentence, Spells, nothing, zone, point, rule}
use Rattle.line_reader.specs.Reading.{decoded, reading}

-- what a sentence asks for: the record that it spells, with a zone's name decoded, or nothing
abbrev pub sentence_input : Sentence → Input
sentence_input nothing = no_record
sentence_input (zone n name) = a_record (records.zone n (decoded name))
sentence_input (point n z kind) = a_record (records.point n z kind)
sentence_input (rule z n) = a_record (records.rule z n)

-- what a reading asks for: that of its sentence, or a refusal
abbrev pub reading_input : Result Sentence (ℕ × ℕ) → Input
reading_input (Ok s) = sentence_input s
reading_input (Err e) = unread e.0 e.1

-- what a line asks for
abbrev pub line_input : List ℕ → Input
line_input line = reading_input (reading line)

-- What a line asks for, by the grammar: the record that it spells, nothing, or its fault's number and column.
pub data Asks (line : List ℕ) : Input → Type 0 where
  asks_nothing : Spells line nothing → Asks line no_record
  asks_zone : {n : ℕ} {w v : List ℕ} → Spells line (zone n w) → Name w v → Asks line (a_record (records.zone n v))
  asks_point : {n z kind : ℕ} → Spells line (point n z kind) → Asks line (a_record (records.point n z kind))
  asks_rule : {z n : ℕ} → Spells line (rule z n) → Asks line (a_record (records.rule z n))
  asks_amiss : {f : ReadFault} {c : ℕ} → Faulty line f c → Asks line (unread (number_of_read_fault f) c)

-- the function gives what the grammar says, and nothing else
abbrev pub LinesExact : Type 0
LinesExact = (line : List ℕ) (input : Input) → (line_input line ≡ input) ↔ Asks line input

-- what a call asks for: a line what it spells, another call its record
pub data CallAsks : Call → Input → Type 0 where
  by_line : {line : Bor (List ℕ)} {input : Input} → Asks line.now input → CallAsks (Line line) input
  by_zone : {n : ℕ} {name : Bor (List ℕ)} → CallAsks (Zone n name) (a_record (records.zone n name.now))
  by_point : {n z kind : ℕ} → CallAsks (Point n z kind) (a_record (records.point n z kind))
  by_rule : {z n : ℕ} → CallAsks (Rule z n) (a_record (records.rule z n))

-- calls, and the inputs that they ask for, one each
pub data CallsAsk : List Call → List Input → Type 0 where
  no_call : CallsAsk [] []
  one_more : {call : Call} {calls : List Call} {input : Input} {inputs : List Input} → CallAsks call input → CallsAsk calls inputs →
      CallsAsk (call ∷ calls) (input ∷ inputs)

-- the same as a function
abbrev pub call_input : Call → Input
call_input (Line bytes) = line_input bytes.now
call_input (Zone n name) = a_record (records.zone n name.now)
call_input (Point n z kind) = a_record (records.point n z kind)
call_input (Rule z n) = a_record (records.rule z n)

-- a line fault's number and column
abbrev pub number_of_line_fault : LineFault → ℕ
number_of_line_fault (Read f c) = number_of_read_fault f
number_of_line_fault (Record f) = number_of_record_fault f

abbrev pub column_of_line_fault : LineFault → ℕ
column_of_line_fault (Read f c) = c
column_of_line_fault (Record f) = 0

-- the answer of a line's call by its number and column
abbrev pub line_reply : Result ℕ LineFault → Reply
line_reply (Ok n) = taken n
line_reply (Err f) = refused (number_of_line_fault f) (column_of_line_fault f)
