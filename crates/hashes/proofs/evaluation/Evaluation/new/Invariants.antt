use Rattle.std.proofs.Common.{◌≡◌, length}
use Rattle.hashes.proofs.EvaluationSteps.{Power, MultiplesRows}
use Rattle.hashes.proofs.evaluation.Evaluation.new.Given as goal

-- the rows so far are filled, and the power is that of the next
abbrev pub invariant-loop-row : goal.invariant-loop-row
invariant-loop-row l = record {
  sized : length l.row-items ≡ 8;
  power : Power l.point l.row-index l.power;
  rows : MultiplesRows l.point l.row-index l.row-items;
}
