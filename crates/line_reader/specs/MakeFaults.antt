-- The number of each fault of making, with its line and column.
use Rattle.std.specs.Prelude.{ℕ}
use Rattle.hashes.specs.KeyFault.{number_of_key_fault}
use Rattle.line_reader.specs.declared.fault.MakeFault.{MakeFault}
use Rattle.line_reader.specs.declared.fault.MakeFault.TheVariants.{Key, Line, Room}
use Rattle.line_reader.specs.Calls.{column_of_line_fault, number_of_line_fault}

abbrev pub number_of_make_fault : MakeFault → ℕ
number_of_make_fault (Key f) = number_of_key_fault f
number_of_make_fault (Line f line) = number_of_line_fault f
number_of_make_fault Room = 50

-- the line, from 1, and the column; both are 0 where no line is at fault
abbrev pub line_and_column_of_make_fault : MakeFault → ℕ × ℕ
line_and_column_of_make_fault (Key f) = (0, 0)
line_and_column_of_make_fault (Line f line) = (line, column_of_line_fault f)
line_and_column_of_make_fault Room = (0, 0)
