-- Each line is taken off and sent, and what is left is a shorter text.
use Rattle.std.proofs.Common.{◌≡◌, ◌+◌, Err, ap, ◌∙◌, rules}
use Rattle.line_reader.specs.declared.fault.MakeFault.TheVariants.{Line}
use Rattle.line_reader.specs.Calls.{line_reply}
use Rattle.register.specs.Results.{mapped_err, mapped_ok}
use Rattle.line_reader.proofs.Sendings.{sending_stops, sending_goes, sending_ends}
use Rattle.line_reader.proofs.text.send_lines.Goals as goal

pub loop-i-preserved : goal.loop-i-preserved
loop-i-preserved g c =
    let sent = c.line_into.ensures in
    let taken = mapped_ok _ _ _ _ c.map_err.ensures.cases c.in_ok-map_err.was in
    let s = c.in-Some.ensures.steps in
    λ facts key pad e z.
    rw s.2
    (sending_goes facts
    (c.loop-i.invariant facts key pad e z) c.in-Some.line.now c.next.new.self.iter.rest.now s.0.0 _ _ _
    (ap line_reply taken ∙ sent.answers) sent.leaves sent.writes)

pub returns-in_err-map_err : goal.returns-in_err-map_err
returns-in_err-map_err g c =
    let s = c.in-Some.ensures.steps in
    let refused = mapped_err _ c.line_into.result c.map_err.result c.in_err-map_err.field-0.0 c.map_err.ensures.cases c.in_err-map_err.was in
    let told : c.from_residual.result ≡ Err (Line refused.0 (c.loop-i.i-iterator.count + 1)) = search (rules, refused.2, s.1) in
    rw told (record {
      sends = λ facts key pad e z.
          sending_stops facts
          (c.loop-i.invariant facts key pad e z) c.in-Some.line.now c.next.new.self.iter.rest.now s.0.0 _ _
          (ap line_reply refused.1 ∙ c.line_into.ensures.answers);
    })

pub returns : goal.returns
returns g c =
    record {
      sends =
          λ facts key pad e z. sending_ends facts
          (c.loop-i.invariant facts key pad e z) c.in-None.ensures.steps.0;
    }
