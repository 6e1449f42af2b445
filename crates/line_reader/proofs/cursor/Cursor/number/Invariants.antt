-- The digits from here on make the number of the whole, and the value so far fits the digits so far.
use Rattle.line_reader.specs.Reading.{read_number}
use Rattle.line_reader.proofs.Fronts.{ReadOn}
use Rattle.line_reader.proofs.cursor.Cursor.number.Given as goal

abbrev pub invariant-loop : goal.invariant-loop
invariant-loop l = ReadOn (read_number l.fn.self) l.counter l.value l.self-inside.rest.now
