-- The family that the code picks seals the rest of the input.
use Rattle.std.proofs.Common.{ℕ, ap, ap₂, ◌∙◌, arith, rules, Err}
use Rattle.std.proofs.lemmas.Result.{err_from_is_err_and}
use Rattle.line_reader.specs.InputFaults.{seal_answer}
use Rattle.line_reader.proofs.SiteSeals.{seal_by_code}
use Rattle.line_reader.proofs.site_input.seal_parts.Goals as goal

pub returns-in_err-seal_by_family : goal.returns-in_err-seal_by_family
returns-in_err-seal_by_family c =
    let p = err_from_is_err_and c.from_residual-in_err-seal_by_family.result c.from_residual-in_err-seal_by_family.ensures.1 in
    ap seal_answer p.1 ∙ ap₂ (λ (n : ℕ) (place : ℕ × ℕ). Err (n, place)) p.2.0 p.2.1
    ∙ seal_by_code c.args.input.now c.in_ok-code.code c.in_ok-family.family _ (omega (arith, c.if-input-gt-LONGEST_INPUT.false)) c.code_of.ensures.bytes (search rules) c.in_ok-family.ensures c.in_err-seal_by_family.ensures
