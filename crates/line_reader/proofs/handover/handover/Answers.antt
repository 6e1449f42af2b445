use Rattle.line_reader.proofs.Promised.{promise_holds}
use Rattle.line_reader.proofs.handover.handover.Goals as goal

pub returns-clause-promise : goal.returns-clause-promise
returns-clause-promise g c =
    promise_holds g.F.Family.meaning c.register_facts.ensures.facts c.seal_bounds.ensures c.message_bounds.ensures
