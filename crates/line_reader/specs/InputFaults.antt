-- The number of each fault of the program's input, with its line and column.
use Rattle.std.specs.Prelude.{ℕ, Ok, Err, Result}
use Rattle.line_reader.specs.declared.fault.InputFault.{InputFault}
use Rattle.line_reader.specs.declared.fault.InputFault.TheVariants.{Code, Length, Make}
use Rattle.line_reader.specs.declared.fault.MakeFault.{MakeFault}
use Rattle.line_reader.specs.MakeFaults.{number_of_make_fault, line_and_column_of_make_fault}
use Rattle.line_reader.specs.SiteInput.{InputAnswer}

abbrev pub number_of_input_fault : InputFault → ℕ
number_of_input_fault Code = 4
number_of_input_fault Length = 5
number_of_input_fault (Make f) = number_of_make_fault f

-- the line, from 1, and the column; both are 0 where no line is at fault
abbrev pub line_and_column_of_input_fault : InputFault → ℕ × ℕ
line_and_column_of_input_fault Code = (0, 0)
line_and_column_of_input_fault Length = (0, 0)
line_and_column_of_input_fault (Make f) = line_and_column_of_make_fault f

-- an answer by its numbers
abbrev pub seal_answer : Result (ℕ × ℕ) InputFault → InputAnswer
seal_answer (Ok s) = Ok s
seal_answer (Err f) = Err (number_of_input_fault f, line_and_column_of_input_fault f)

abbrev pub text_answer : Result (ℕ × ℕ) MakeFault → InputAnswer
text_answer (Ok s) = Ok s
text_answer (Err f) = Err (number_of_make_fault f, line_and_column_of_make_fault f)
