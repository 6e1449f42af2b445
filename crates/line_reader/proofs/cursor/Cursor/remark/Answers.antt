-- The place of the first line feed, if there is one.
use Rattle.std.proofs.Common.{◌≡◌, ◌≢◌, ℕ, sym, ap, ◌∙◌, rules, tests}
use Rattle.std.proofs.lemmas.Iterator.{YieldsList-from_slice, IsFirst-from_position}
use Rattle.line_reader.specs.Reading.{past_remark}
use Rattle.line_reader.proofs.Fronts.{remark_end}
use Rattle.line_reader.proofs.cursor.Cursor.remark.Goals as goal

pub returns : goal.returns
returns c =
    let text = c.self.inside.rest.now in
    let first = IsFirst-from_position _ _ c.position-end.result (λ (b : ℕ). b ≡ 10) (λ b. b ≢ 10) c.position-end.ensures.ran (YieldsList-from_slice text c.iter.ensures.rest) (λ x q k. search (rules, tests)) (λ x q k. search (rules, tests)) in
    ap past_remark (sym c.self.view_is) ∙ remark_end text c.position-end.result first ∙ rw (sym c.unwrap_or.ensures)
