-- Each mask has a bit for each line feed.
use Rattle.std.proofs.Common.{eqb, ap, ◌∙◌, length, rules, tests, arith, w8}
use Rattle.std.specs.Option.{unwrap_or}
use Rattle.std.proofs.lemmas.Iterator.{YieldsList-from_slice}
use Rattle.std.proofs.lemmas.Iterator.Search.{position_from_yields_List}
use Rattle.std.proofs.lemmas.List.Sums.{prefix_len-le-length}
use Rattle.std.proofs.lemmas.Simd.{bitmask_splat, length-chunk}
use lib.Lanes.{chunk}
use Rattle.line_reader.proofs.Cuts.{first_in_mask, place_or_length}
use Rattle.line_reader.proofs.text.line_len.Goals as goal

pub returns-then-feeds-ne0 : goal.returns-then-feeds-ne0
returns-then-feeds-ne0 c =
    let text = c.args.text.now in
    let room = c.if-text-ge16.true in
    first_in_mask text _ (omega (arith, room)) (bitmask_splat w8 eqb (chunk 0 16 text) 16 10 (length-chunk 0 16 text (omega (arith, room))) (omega arith)) (omega (arith, c.if-feeds-ne0.true))

pub returns : goal.returns
returns c =
    let text = c.args.text.now in
    let found = position_from_yields_List (λ b. eqb b 10) _ _ c.position.result c.position.ensures.ran (YieldsList-from_slice text c.iter.ensures.rest) (λ x b q k. search (rules, tests)) in
    c.unwrap_or.ensures ∙ ap (λ o. unwrap_or o (length text)) found ∙ place_or_length _ (length text) (prefix_len-le-length _ text)
