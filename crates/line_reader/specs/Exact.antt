-- The reading of a line is the one answer that the grammar allows, and decoding gives the bytes of a name.
use Rattle.std.specs.Prelude.{◌≡◌, ℕ, ◌⊎◌, ◌↔◌, List, Ok, Err}
use Rattle.line_reader.specs.declared.fault.ReadFault.{ReadFault}
use Rattle.line_reader.specs.Numbers.{number_of_read_fault}
use Rattle.line_reader.specs.Grammar.{Name, Sentence, Spells, Faulty}
use Rattle.line_reader.specs.Reading.{reading, decoded}

pub record ReadingsExact : Type 0 where
  -- it answers what the line says, and nothing else
  pub sentence : (line : List ℕ) (s : Sentence) → (reading line ≡ Ok s) ↔ Spells line s
  -- it answers the fault's number and the column of a line outside the grammar, and no others
  pub fault : (line : List ℕ) (f : ReadFault) (c : ℕ) → (reading line ≡ Err (number_of_read_fault f, c)) ↔ Faulty line f c
  -- a line says at most one thing, and has at most one fault and column
  pub one_sentence : (line : List ℕ) (s t : Sentence) → Spells line s → Spells line t → s ≡ t
  pub one_fault : (line : List ℕ) (f g : ReadFault) (c d : ℕ) → Faulty line f c → Faulty line g d → (f ≡ g) × (c ≡ d)
  -- every line is in the grammar or has a fault, and none does both
  pub one_of_both : (line : List ℕ) → ((s : Sentence) × Spells line s) ⊎ ((f : ReadFault) × (c : ℕ) × Faulty line f c)
  pub not_both : (line : List ℕ) (s : Sentence) (f : ReadFault) (c : ℕ) → Spells line s → Faulty line f c → ⊥

-- the bytes of a name are those that the grammar gives it
abbrev pub NamesDecoded : Type 0
NamesDecoded = (w v : List ℕ) → Name w v → decoded w ≡ v
