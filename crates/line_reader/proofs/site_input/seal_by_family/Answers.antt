-- For each family, the seal is the one by its formula.
use Rattle.std.proofs.Common.{sym, ap, ◌∙◌}
use Rattle.line_reader.specs.declared.family_code.FamilyCode.{FamilyCode}
use Rattle.line_reader.specs.FamilyCodes.{scheme_of_family}
use Rattle.line_reader.specs.SiteInput.{seal_by_scheme}
use Rattle.line_reader.proofs.SiteSeals.{division_agrees, evaluation_agrees, toeplitz_agrees}
use Rattle.line_reader.proofs.site_input.seal_by_family.Goals as goal

pub returns-in-Division : goal.returns-in-Division
returns-in-Division c bytes =
    c.seal_text.ensures ∙ division_agrees c.register_facts.ensures.facts c.args.rest.now bytes
    ∙ ap (λ (f : FamilyCode). seal_by_scheme (scheme_of_family f) c.args.rest.now)
    (sym c.in-Division.is)

pub returns-in-Toeplitz : goal.returns-in-Toeplitz
returns-in-Toeplitz c bytes =
    c.seal_text-in-Toeplitz.ensures
    ∙ toeplitz_agrees c.register_facts.ensures.facts c.args.rest.now bytes
    ∙ ap (λ (f : FamilyCode). seal_by_scheme (scheme_of_family f) c.args.rest.now)
    (sym c.in-Toeplitz.is)

pub returns-in-Evaluation : goal.returns-in-Evaluation
returns-in-Evaluation c bytes =
    c.seal_text-in-Evaluation.ensures
    ∙ evaluation_agrees c.register_facts.ensures.facts c.args.rest.now bytes
    ∙ ap (λ (f : FamilyCode). seal_by_scheme (scheme_of_family f) c.args.rest.now)
    (sym c.in-Evaluation.is)
