-- The rows of the table at single records, with the numbers written out.
use Rattle.std.specs.Prelude.{◌≡◌, ℕ, List, [], ◌∷◌, ◌++◌, length, map, replicate}
use Rattle.register.specs.declared.fault.RecordFault.TheVariants.{Range, Name, Repeated, Missing}
use Rattle.register.specs.Records.{Record, zone, point, rule, message}
use Rattle.register.specs.Faults.{number_of_record_fault}
use Rattle.register.specs.Book.{ZoneName, InRange, ZoneDeclared, PointDeclared, FullFault, Refused, Accepted, rows}

pub record RowExamples : Type 0 where
  -- the rows by their numbers, in their order
  pub numbers : map number_of_record_fault rows ≡ 20 ∷ 21 ∷ 30 ∷ 31 ∷ 32 ∷ []
  -- the highest zone, point and kind, and the longest name
  pub highest_zone : Accepted [] (zone 250 (replicate 40 0x41))
  pub highest_point : Accepted (zone 250 (0x41 ∷ []) ∷ []) (point 1000 250 4)
  -- and each by one more
  pub zone_above : Refused [] (zone 251 (0x41 ∷ [])) Range
  pub point_above : Refused (zone 250 (0x41 ∷ []) ∷ []) (point 1001 250 4) Range
  pub kind_above : Refused (zone 250 (0x41 ∷ []) ∷ []) (point 1000 250 5) Range
  pub name_above : Refused [] (zone 250 (replicate 41 0x41)) Name
  -- the number of a zone is looked at before its name, and the name before what is declared
  pub range_first : Refused [] (zone 0 []) Range
  pub name_first : Refused (zone 1 (0x41 ∷ []) ∷ []) (zone 1 []) Name
  -- what is declared twice is refused so, whatever else it names and however long the message is
  pub zone_twice : (before : List Record) (n : ℕ) (name : List ℕ) → ZoneDeclared before n
      → InRange (zone n name) → ZoneName name → Refused before (zone n name) Repeated
  pub point_twice : (before : List Record) (n z kind : ℕ) → PointDeclared before n
      → InRange (point n z kind) → Refused before (point n z kind) Repeated
  -- what names a zone that is not declared is refused so, however long the message is
  pub rule_missing : (before : List Record) (z p : ℕ) → ¬ ZoneDeclared before z
      → InRange (rule z p) → Refused before (rule z p) Missing
  -- a message of 60,000 bytes is not too long, and one of 60,001 is
  pub longest : (before : List Record) (r : Record) → length (message (before ++ (r ∷ []))) ≡ 60000
      → ¬ FullFault before r
  pub longer : (before : List Record) (r : Record) → length (message (before ++ (r ∷ []))) ≡ 60001
      → FullFault before r
