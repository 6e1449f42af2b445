use Rattle.std.proofs.Common.{◌≡◌, ◌<◌}
use Rattle.hashes.specs.Family.{absorbed}
use Rattle.exports.proofs.hash_parts.Given as goal

-- what is left of the message leads to the state after all of it
abbrev pub invariant-loop-piece : goal.invariant-loop-piece
invariant-loop-piece g l =
    (0 < l.piece-iterator.size)
    × (absorbed g.F.Family.meaning (g.F.Family.state l.hash) l.piece-iterator.rest.now ≡ absorbed g.F.Family.meaning (g.F.Family.state l.initial.hash) l.message)
