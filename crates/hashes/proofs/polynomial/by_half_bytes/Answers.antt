use Rattle.std.proofs.Common.{rules}
use Rattle.hashes.proofs.Sums.{no_half_byte}
use Rattle.hashes.proofs.polynomial.by_half_bytes.Goals as goal

pub loop-row-init : goal.loop-row-init
loop-row-init c = record { added = λ f add rows. no_half_byte f c.args.v add; left = search rules }
