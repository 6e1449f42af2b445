use Rattle.std.proofs.Common.{◌∙◌, refl, arith, length-set}
use Rattle.hashes.proofs.EvaluationSteps.{first_power, next_power, row_at, multiples_rows_more}
use Rattle.hashes.proofs.evaluation.Evaluation.new.Goals as goal

pub loop-row-init : goal.loop-row-init
loop-row-init c = record { sized = refl; power = first_power c.args.point c.ranges.point.fits; rows = λ i h. absurd (omega arith) }

pub loop-row-preserved : goal.loop-row-preserved
loop-row-preserved c =
    let a = c.args.point in
    let j = c.loop-row.row-index in
    let power = c.loop-row.invariant.power in
    record {
      sized = length-set c.loop-row.row-items j _ ∙ c.loop-row.invariant.sized;
      power = next_power a j c.loop-row.power c.byte_up-power.result power c.byte_up-power.ensures;
      rows =
          multiples_rows_more a j c.loop-row.row-items _ (omega (arith, c.loop-row.invariant.sized, c.loop-row-test.true))
          (row_at a j c.loop-row.power _ power c.fill_row.ensures) c.loop-row.invariant.rows;
    }
