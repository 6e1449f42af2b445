use Rattle.std.proofs.Common.{refl, arith}
use Rattle.hashes.proofs.evaluation.fill_row.Goals as goal

pub fill_multiples-requires : goal.fill_multiples-requires
fill_multiples-requires c = (omega arith, (4, refl))
