-- A digit moves the value on.
use Rattle.std.proofs.Common.{rules}
use Rattle.line_reader.proofs.Fronts.{read_on}
use Rattle.line_reader.proofs.cursor.Cursor.number.Goals as goal

pub loop-preserved : goal.loop-preserved
loop-preserved c = read_on _ _ _ _ _ (search rules) (search rules) (search rules) (search rules) (search rules)
