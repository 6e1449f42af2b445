-- The characters from here on end as those from the start do.
use Rattle.std.proofs.Common.{◌≡◌, false, length}
use Rattle.line_reader.specs.Reading.{characters}
use Rattle.line_reader.proofs.cursor.Cursor.name.Given as goal

abbrev pub invariant-loop : goal.invariant-loop
invariant-loop l = (characters false l.initial.self).1 ≡ (characters false l.self).1

abbrev pub decreases-loop : goal.decreases-loop
decreases-loop l = length l.self
