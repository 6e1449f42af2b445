-- One character more leaves the same end, which is no longer than the text.
use Rattle.std.proofs.Common.{None, Ok, ap, ◌∙◌, rules}
use Rattle.line_reader.proofs.Names.{characters_by, characters_less}
use Rattle.line_reader.proofs.cursor.Cursor.name.Goals as goal

pub slice_bounds-result-count : goal.slice_bounds-result-count
slice_bounds-result-count c =
    rw (c.self-2.view_is, c.self.view_is)
    (characters_less c.args.self.now c.character.new.self (Ok tt)
    (c.loop.invariant ∙ ap (λ x. x.1) (characters_by c.loop.self (c.character.new.self, Ok None) (search rules))))
