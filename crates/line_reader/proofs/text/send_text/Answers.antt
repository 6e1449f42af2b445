-- The key buffer is refused, or a line is, or all lines are taken.
use Rattle.std.proofs.Common.{◌≡◌, ℕ, List, length, Ok, Err, Result, sym, ap, ap₂, subst, ◌∙◌}
use Rattle.std.proofs.lemmas.Result.{err_from_is_err_and}
use Rattle.register.specs.View.{View, key_of, pad_of, seal}
use Rattle.line_reader.specs.declared.fault.MakeFault.{MakeFault}
use Rattle.line_reader.specs.Sending.{SendsText, by_line}
use Rattle.line_reader.proofs.Sendings.{buffer_refused}
use Rattle.line_reader.proofs.text.send_text.Goals as goal

pub returns-in_err-register-clause-sends : goal.returns-in_err-register-clause-sends
returns-in_err-register-clause-sends g c =
    let p = err_from_is_err_and c.from_residual.result c.from_residual.ensures.1 in
    buffer_refused g.F.Family.meaning c.args.buffer.now c.args.text.now _ p.0 _ _ _ p.1 p.2 c.in_err-register.ensures.opens

pub returns-in_err-send_lines-clause-sends : goal.returns-in_err-send_lines-clause-sends
returns-in_err-send_lines-clause-sends g c =
    let M = g.F.Family.meaning in
    let buffer = c.args.buffer.now in
    let facts = c.register_facts.ensures.facts in
    let o = c.in_ok-register.ensures.opens in
    let p = err_from_is_err_and c.from_residual-in_err-send_lines.result c.from_residual-in_err-send_lines.ensures.1 in
    let refused : SendsText M buffer c.args.text.now
    (Err c.in_err-send_lines.field-0.0) c.args.out.now c.send_lines.new.out =
    record {
      sends =
          λ z. by_line o
          (c.in_err-send_lines.ensures.sends facts (key_of M buffer) (pad_of M buffer)
          (facts.opens_new buffer _ o) z);
    } in
    subst (λ (r : Result (ℕ × ℕ) MakeFault).
    SendsText M buffer c.args.text.now r c.args.out.now c.send_lines.new.out)
    (sym (p.1 ∙ ap Err p.2)) refused

pub returns-clause-sends : goal.returns-clause-sends
returns-clause-sends g c =
    let M = g.F.Family.meaning in
    let buffer = c.args.buffer.now in
    let facts = c.register_facts.ensures.facts in
    let o = c.in_ok-register.ensures.opens in
    record {
      sends = λ z.
          let s = c.in_ok-send_lines.ensures.sends facts (key_of M buffer) (pad_of M buffer)
          (facts.opens_new buffer _ o) z in (
            _,
            o,
            s.0,
            s.1,
            ap₂ (λ (n w : ℕ). (n, w)) (c.len.ensures ∙ ap (λ (u : View M). u.known.bytes) s.2)
                (c.close.ensures ∙ ap (seal M) s.2),
            s.3,
          );
    }
