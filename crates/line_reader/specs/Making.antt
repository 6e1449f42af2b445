-- What making the image of a text answers and leaves, and that the check passes just the images that texts make.
use Rattle.std.specs.Prelude.{◌≡◌, ℕ, ◌+◌, ◌≤◌, cond, ◌↔◌, List, [], ◌∷◌, length, replicate, Ok, Err, Result, nat_le}
use Rattle.std.specs.Int.{bytes_high_first}
use Rattle.hashes.specs.Family.{Meaning}
use Rattle.hashes.specs.KeyFault.{Answer}
use Rattle.hashes.specs.Word.{Bytes}
use Rattle.register.specs.Check.{checked, says}
use Rattle.register.specs.Image.{image}
use Rattle.register.specs.Records.{Record}
use Rattle.register.specs.Run.{Reply, taken, refused, step}
use Rattle.register.specs.View.{View, key_of, opening, pad_of, sealed}
use Rattle.register.specs.Writing.{filled_up}
use Rattle.line_reader.specs.Calls.{line_input}
use Rattle.line_reader.specs.Texts.{lines_of}

-- What lines come to: the records taken, or the refusal of a line by its number, the line and the column.
pub data Sent : Type 0 where
  all_taken : (records : List Record) → Sent
  stopped : (number line column : ℕ) → Sent

-- a line that is refused stops the sending
abbrev pub unless_refused : Reply → ℕ → Sent → Sent
unless_refused (taken message_length) line later = later
unless_refused (refused number column) line later = stopped number line column

-- lines in order, the first with this number, to a register that took the records before
abbrev pub sent : List Record → List (List ℕ) → ℕ → Sent
sent before [] n = all_taken before
sent before (line ∷ lines) n =
    let s = step before (line_input line) in
    unless_refused s.0 n (sent s.1 lines (n + 1))

-- the image of records under a key and a pad
abbrev pub sealed_image : Meaning → List ℕ → ℕ → List Record → List ℕ
sealed_image M key pad rs = image rs M.code (bytes_high_first 8 (sealed M key pad rs))

-- An answer, and the output after it: the image's length, or a refusal's number with the line and the column.
abbrev pub Making : Type 0
Making = Result ℕ (ℕ × (ℕ × ℕ)) × List ℕ

-- a refusal leaves only zeros
abbrev pub unmade : ℕ → ℕ → ℕ → ℕ → Making
unmade room number line column = (Err (number, (line, column)), replicate room 0)

-- the image followed by zeros, if there is room for it
abbrev pub making : Meaning → List ℕ → ℕ → ℕ → Sent → Making
making M key pad room (all_taken rs) =
    let i = sealed_image M key pad rs in
    cond (nat_le (length i) room) (Ok (length i), filled_up room i) (unmade room 50 0 0)
making M key pad room (stopped number line column) = unmade room number line column

-- by what opening the key buffer answers
abbrev pub made_by : (M : Meaning) → List ℕ → List ℕ → ℕ → Answer (View M) → Making
made_by M buffer text room (Ok v) = making M (key_of M buffer) (pad_of M buffer) room (sent [] (lines_of text) 1)
made_by M buffer text room (Err n) = unmade room n 0 0

-- what making the image of a text by a key buffer comes to, in an output with so much room
abbrev pub made : Meaning → List ℕ → List ℕ → ℕ → Making
made M buffer text room = made_by M buffer text room (opening M buffer)

-- the check passes an image under a key buffer exactly when some text makes it, in any output that
-- has room for it
abbrev pub TextsPass : Meaning → Type 0
TextsPass M = (buffer image : List ℕ) (room : ℕ) → Bytes buffer → Bytes image → length image ≤ room
    → (checked M buffer image ≡ says 1)
    ↔ ((text : List ℕ) × Bytes text
    × (made M buffer text room ≡ (Ok (length image), filled_up room image)))
