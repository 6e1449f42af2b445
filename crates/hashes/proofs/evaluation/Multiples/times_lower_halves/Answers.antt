use Rattle.std.proofs.Common.{ℕ, ◌/◌, ◌%◌, ◌<◌, ap, ◌∙◌, arith, rules}
use Rattle.hashes.proofs.EvaluationSteps.{half_added, no_half}
use Rattle.hashes.proofs.Sums.{higher_digits}
use Rattle.hashes.proofs.evaluation.Multiples.times_lower_halves.Goals as goal

pub loop-row-init : goal.loop-row-init
loop-row-init c = record { added = no_half c.args.self.now.point c.args.v; left = search rules }

pub loop-row-preserved : goal.loop-row-preserved
loop-row-preserved c =
    let table = c.args.self.now in
    let l = c.loop-row in
    let j = l.row-index in
    let within : j < 8 = search rules in record {
      added =
          half_added table.point c.args.v j l.rest l.sum _ l.invariant.left
          (table.filled j (l.rest % 16) within (omega arith)) l.invariant.added;
      left = ap (λ (r : ℕ). r / 256) l.invariant.left ∙ higher_digits 8 c.args.v j;
    }
