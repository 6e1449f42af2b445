use Rattle.register.proofs.Bounds.{messages}
use Rattle.register.proofs.facts.message_bounds.Goals as goal

pub returns : goal.returns
returns g c = record { messages = messages g.F.Family.meaning g.met.F.Family.lawful }
