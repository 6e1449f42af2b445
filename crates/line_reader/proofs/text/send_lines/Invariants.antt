use Rattle.std.proofs.Common.{◌≡◌, ℕ, ◌+◌, List, [], length, replicate}
use Rattle.register.specs.Facts.{RegisterFacts}
use Rattle.register.specs.View.{standing}
use Rattle.register.specs.Values.{view}
use Rattle.line_reader.proofs.Sendings.{Sending}
use Rattle.line_reader.proofs.text.send_lines.Given as goal

abbrev pub invariant-loop-i : goal.invariant-loop-i
invariant-loop-i g l =
    let M = g.F.Family.meaning in
    let st = g.F.Family.state in
    RegisterFacts M → (key : List ℕ) (pad : ℕ) → view M st l.initial.register
    ≡ standing M key pad [] → l.initial.out ≡ replicate (length l.initial.out) 0
    → Sending M key pad l.text (view M st l.register) (length l.initial.out) l.out l.i-iterator.iter.rest.now (l.i-iterator.count + 1)
