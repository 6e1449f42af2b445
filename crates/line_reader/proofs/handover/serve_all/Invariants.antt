use Rattle.std.proofs.Common.{map, take}
use Rattle.register.specs.Values.{view}
use Rattle.line_reader.specs.Calls.{line_reply}
use Rattle.line_reader.proofs.Progress.{Progress}
use Rattle.line_reader.proofs.handover.serve_all.Given as goal

-- the calls before place i have been made
abbrev pub invariant-loop-i : goal.invariant-loop-i
invariant-loop-i g l =
    let M = g.F.Family.meaning in
    let st = g.F.Family.state in
    Progress M (view M st l.initial.register) (view M st l.register) (take l.i l.calls) (map line_reply l.initial.answers) (map line_reply l.answers)
