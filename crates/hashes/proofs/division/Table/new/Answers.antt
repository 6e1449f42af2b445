use Rattle.std.proofs.Common.{refl, arith}
use Rattle.hashes.proofs.division.Table.new.Goals as goal

pub fill_multiples-requires : goal.fill_multiples-requires
fill_multiples-requires c = (omega arith, (8, refl))
