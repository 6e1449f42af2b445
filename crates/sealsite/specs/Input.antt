-- What reading takes from a reader. Before and after are the bytes that the reader has still to
-- give, where it says which.
use Rattle.std.specs.Prelude.{ℕ, ◌<◌, List, length, take, Option, Result, MatchResult}
use Rattle.std.specs.Io.KnownBytes.{Consumes, IsAtEnd}

-- the reader gave the first n bytes of the buffer and no others, and where those do not fill the
-- buffer it has no more to give
pub record FillsFrom (before after : Option (List ℕ)) (buffer : List ℕ) (n : ℕ) : Type 0 where
  pub gave : Consumes before after (take n buffer)
  pub to_the_end : n < length buffer → IsAtEnd after

-- the reader gave some front of the buffer and nothing else
abbrev pub GaveAFront : (before after : Option (List ℕ)) → List ℕ → Type 0
GaveAFront before after buffer = (n : ℕ) × Consumes before after (take n buffer)

-- the buffer is filled as far as the reader goes, or until a read fails
abbrev pub ReadsInput : {E : Type 0} → (before after : Option (List ℕ)) → Result ℕ E → List ℕ
    → Type 0
ReadsInput before after r buffer =
    MatchResult r (FillsFrom before after buffer) (λ _. GaveAFront before after buffer)
