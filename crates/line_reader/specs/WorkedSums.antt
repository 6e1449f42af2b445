-- Hashes, a key that is refused, a field, and columns, worked by hand.
use Rattle.std.specs.Prelude.{◌≡◌, ℕ, ◌+◌, ◌^◌, List, [], ◌∷◌, ◌++◌, length, replicate, Err, codes}
use Rattle.hashes.specs.Division.{division_family, division_hash}
use Rattle.hashes.specs.Evaluation.{evaluation_hash}
use Rattle.hashes.specs.Irreducible.{Irreducible}
use Rattle.hashes.specs.Polynomial.{times}
use Rattle.hashes.specs.Toeplitz.{toeplitz_hash}
use Rattle.register.specs.Records.{Record, message}
use Rattle.register.specs.Run.{Step, a_record, taken, unread}
use Rattle.register.specs.View.{opening}
use Rattle.line_reader.specs.Calls.{Asks}

-- the message of one zone with the number 7 and the name A
abbrev pub zone_seven : List ℕ
zone_seven = 0x01 ∷ 0x00 ∷ 0x03 ∷ 0x00 ∷ 0x07 ∷ 0x41 ∷ []

-- a line that a new register takes, by the grammar and the rows of the book, and the field that it
-- adds to the message
abbrev pub Adds : List ℕ → List ℕ → Type 0
Adds line bytes =
    (r : Record) × Asks line (a_record r)
    × Step [] (a_record r) (taken (length bytes)) (r ∷ []) × (message (r ∷ []) ≡ bytes)

-- p = 5 as a key buffer of the division hash, with a pad of zeros
abbrev pub reducible_buffer : List ℕ
reducible_buffer = replicate 7 0 ++ (5 ∷ replicate 8 0)

pub record WorkedSums : Type 0 where
  -- p is 1B, and the first state 1
  pub division_none : division_hash 0x1B [] ≡ 0x1B
  pub division_one : division_hash 0x1B (0x01 ∷ []) ≡ 0x1B1B
  pub toeplitz_none : toeplitz_hash 0x1B 1 [] ≡ 1
  pub toeplitz_one : toeplitz_hash 0x1B 1 (0x80 ∷ []) ≡ 0x0100000000000001
  -- at the points 1 and 2
  pub evaluation_none : evaluation_hash 1 [] ≡ 0x8000000000000001
  pub evaluation_zone : evaluation_hash 1 zone_seven ≡ 0x0100030007418001
  pub evaluation_twice : evaluation_hash 2 zone_seven ≡ 0x020006000E830004
  -- x^64 + x^2 + 1 is the square of x^32 + x + 1, so it is not irreducible, and 3 refuses its word
  pub square : times (2 ^ 32 + 3) (2 ^ 32 + 3) ≡ 2 ^ 64 + 5
  pub reducible : Irreducible (2 ^ 64 + 5) → ⊥
  pub refused : opening division_family reducible_buffer ≡ Err 3
  -- an escaped quote does not end a name
  pub stair : Adds (codes "zone 2 \"Stair \\\"B\\\"\"")
      (0x01 ∷ 0x00 ∷ 0x0B ∷ 0x00 ∷ 0x02
      ∷ 0x53 ∷ 0x74 ∷ 0x61 ∷ 0x69 ∷ 0x72 ∷ 0x20 ∷ 0x22 ∷ 0x42 ∷ 0x22 ∷ [])
  -- the numbers and columns of three lines, by the grammar
  pub leading_zero : Asks (codes "zone 07 \"A\"") (unread 11 5)
  pub no_escape : Asks (codes "zone 7 \"A\\q\"") (unread 12 10)
  pub breaks_off : Asks (codes "zone 7 \"A") (unread 11 9)
