-- What is left of the word on what is left of the text reads as the whole on the whole.
use Rattle.std.proofs.Common.{◌≡◌, drop}
use Rattle.line_reader.specs.Reading.{read_word}
use Rattle.line_reader.proofs.cursor.Cursor.word.Given as goal

abbrev pub invariant-loop-b : goal.invariant-loop-b
invariant-loop-b l = read_word l.word l.initial.self ≡ read_word (drop l.b-index l.word) l.self
