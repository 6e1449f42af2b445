use Rattle.line_reader.proofs.TextsPass.{texts_pass}
use Rattle.line_reader.proofs.make.make.Goals as goal

pub returns-clause-texts : goal.returns-clause-texts
returns-clause-texts g c =
    texts_pass g.F.Family.meaning g.met.F.Family.lawful c.register_facts.ensures.facts
