-- The length of the first line.
use Rattle.std.proofs.Common.{ℕ, not, eqb, refl, rules, arith}
use Rattle.std.proofs.lemmas.List.Sums.{prefix_len-le-length}
use Rattle.line_reader.proofs.Cuts.{after_first, takes_line}
use Rattle.line_reader.proofs.text.LinesIterator.next.Goals as goal

pub split_at-requires : goal.split_at-requires
split_at-requires c = omega (arith, c.line_len.ensures, prefix_len-le-length (λ (b : ℕ). not (eqb b 10)) c.args.self.now.rest.now)

pub returns-clause-steps : goal.returns-clause-steps
returns-clause-steps c =
    takes_line c.args.self.now.rest.now _ c.split_at.result.1.now _ c.line_len.result c.line_len.ensures (search rules)
    c.split_at.ensures.front c.split_at.ensures.back
    (rw c.unwrap_or-self.ensures (after_first c.split_at.result.1.now c.get.result _ refl c.get.ensures.lookup))
