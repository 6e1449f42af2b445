-- What is left of a line is no longer than the line, and the theorems on readings hold.
use Rattle.std.proofs.Common.{length, ap, arith}
use Rattle.line_reader.proofs.Judged.{readings_exact, whole_less}
use Rattle.line_reader.proofs.reader.read_line.Goals as goal

pub overflow_sub-column : goal.overflow_sub-column
overflow_sub-column c = omega (arith, whole_less c.new-cursor.result, ap length c.new-cursor.ensures, ap (λ s. length s.0) c.line-read.ensures)

pub returns-clause-exact : goal.returns-clause-exact
returns-clause-exact c = readings_exact

pub returns-in_err-said-clause-exact : goal.returns-in_err-said-clause-exact
returns-in_err-said-clause-exact c = readings_exact
