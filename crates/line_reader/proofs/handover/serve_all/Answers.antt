use Rattle.std.proofs.Common.{map, ap, ◌∙◌, take_all, subst}
use lib.Seq.{map-set}
use Rattle.register.specs.Values.{view}
use Rattle.line_reader.specs.Calls.{line_reply}
use Rattle.line_reader.proofs.Progress.{Progress, progress_next}
use Rattle.line_reader.proofs.handover.serve_all.Goals as goal

pub loop-i-preserved : goal.loop-i-preserved
loop-i-preserved g c =
    let M = g.F.Family.meaning in
    let answers = c.loop-i.answers in
    let i = c.loop-i.i in
    progress_next M _ _ _ c.args.calls.now i _ (map line_reply c.args.answers.now) (map line_reply answers) _
    (line_reply c.serve-answer.result) c.loop-i-test.true c.loop-i.invariant c.serve-answer.ensures.answers c.serve-answer.ensures.leaves
    (ap (map line_reply) c.put_answer.ensures ∙ map-set line_reply answers i c.serve-answer.result)

pub returns : goal.returns
returns g c =
    let M = g.F.Family.meaning in
    let all = take_all c.loop-i.i c.args.calls.now c.loop-i-test.false in
    let st = g.F.Family.state in
    record { makes = subst (λ cs. Progress M (view M st c.args.register.now) (view M st c.loop-i.register) cs (map line_reply c.args.answers.now) (map line_reply c.loop-i.answers)) all c.loop-i.invariant }
