-- The text behind the key buffer is refused, or sealed.
use Rattle.std.proofs.Common.{◌≡◌, ℕ, ◌+◌, Ok, Err, refl, ap, ◌∙◌, rules}
use Rattle.std.proofs.lemmas.Result.{err_from_is_err_and}
use Rattle.line_reader.specs.InputFaults.{text_answer}
use Rattle.line_reader.proofs.SiteSeals.{Cut, text_refused, text_sealed}
use Rattle.line_reader.proofs.site_input.seal_text.Goals as goal

pub returns-in_err-length : goal.returns-in_err-length
returns-in_err-length g c =
    let M = g.F.Family.meaning in
    let cut : Cut M c.args.rest.now c.in_ok-rest.buffer.now c.in_ok-rest.text.now =
    record { long = search rules; front = search rules; back = search rules } in
    let p = err_from_is_err_and c.from_residual-in_err-length.result c.from_residual-in_err-length.ensures.1 in
    ap text_answer (p.1 ∙ ap Err p.2)
    ∙ text_refused cut _ _ (c.in_err-length.ensures.sends.sends refl)

pub returns : goal.returns
returns g c =
    let M = g.F.Family.meaning in
    let cut : Cut M c.args.rest.now c.in_ok-rest.buffer.now c.in_ok-rest.text.now =
    record { long = search rules; front = search rules; back = search rules } in
    let t = c.in_ok-length.ensures.sends.sends refl in
    ap (λ (k : ℕ). Ok (k, c.in_ok-length.seal)) c.image_len.ensures
    ∙ ap (λ (a : ℕ × ℕ). Ok (a.0 + 12, a.1)) t.4 ∙ text_sealed cut t.0 t.1 t.2 t.3
