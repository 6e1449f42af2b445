use Rattle.std.proofs.Common.{◌≡◌, ◌+◌, ◌^◌, not-suc-le-zero, ◌∙◌, arith, refl, length-set}
use Rattle.hashes.specs.Words.{word_pos}
use Rattle.hashes.proofs.FourthPowers.{row_power, rows_more, word_fourth_one}
use Rattle.hashes.proofs.fourth_powers.fourth_powers.Goals as goal

pub loop-row-init : goal.loop-row-init
loop-row-init c = record {
  len = refl;
  rows = λ j h. absurd (not-suc-le-zero h);
  power = word_fourth_one 64 c.new-carries.result.p c.new-carries.result.fits (omega arith);
}

pub loop-row-preserved : goal.loop-row-preserved
loop-row-preserved c =
    let l = c.loop-row in
    let w = c.new-carries.result.p in
    record {
      len = length-set l.row-items l.row-index _ ∙ l.invariant.len;
      rows = rows_more (2 ^ 64 + w) (word_pos 64 w) l.row-index l.power l.invariant.power l.row-items _ (omega arith) c.row.ensures l.invariant.rows;
      power = row_power (2 ^ 64 + w) (word_pos 64 w) l.row-index l.power l.invariant.power _ _ (c.row.ensures 8 (omega arith)) c.half_byte_up-power.ensures;
    }

pub returns : goal.returns
returns c =
    let last : c.loop-row.row-index ≡ 16 = omega (arith, c.loop-row-test.false, c.loop-row.auto.row-index-end) in
    rw (← c.new-carries.ensures) (record { entry = λ j d hj hd. c.loop-row.invariant.rows j (rw last hj) d hd })
