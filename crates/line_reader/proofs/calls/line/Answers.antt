use Rattle.line_reader.proofs.Asked.{lines_exact}
use Rattle.line_reader.proofs.calls.line.Goals as goal

pub returns-clause-exact : goal.returns-clause-exact
returns-clause-exact g c = lines_exact
