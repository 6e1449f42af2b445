use Rattle.register.proofs.Bounds.{seals, images}
use Rattle.register.proofs.facts.seal_bounds.Goals as goal

pub returns : goal.returns
returns g c = record {
  seals = seals g.F.Family.meaning g.met.F.Family.lawful;
  images = images g.F.Family.meaning g.met.F.Family.lawful;
}
