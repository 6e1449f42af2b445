use Rattle.std.proofs.Common.{◌≡◌, ℕ, List, []}
use Rattle.register.specs.Values.{view}
use Rattle.register.specs.View.{standing}
use Rattle.register.proofs.Walk.{Walked}
use Rattle.register.proofs.check.read_records.Given as goal

abbrev pub invariant-loop-field : goal.invariant-loop-field
invariant-loop-field g l =
    let M = g.F.Family.meaning in
    let st = g.F.Family.state in
    record {
      same : l.field-iterator.image.now ≡ l.image;
      here : l.field-iterator.at ≡ l.at;
      walked : (key : List ℕ) (pad : ℕ) → view M st l.initial.register ≡ standing M key pad [] → Walked M key pad l.image (view M st l.register) l.at;
    }
