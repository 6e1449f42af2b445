-- Answers of the exported functions, each as one number.
use Rattle.std.specs.Prelude.{ℕ, ◌+◌, ◌-◌, ◌*◌, ◌^◌, min, cond, List, Ok, Err, Result, ◌==◌}
use Rattle.std.specs.Int.{bytes_high_first}
use Rattle.hashes.specs.Division.{division_family}
use Rattle.hashes.specs.Evaluation.{evaluation_family}
use Rattle.hashes.specs.Family.{Meaning}
use Rattle.hashes.specs.KeyFault.{Answer}
use Rattle.hashes.specs.Toeplitz.{toeplitz_family}
use Rattle.register.specs.Check.{Verdict, says, faulted}
use Rattle.register.specs.Writing.{put}
use Rattle.line_reader.specs.Making.{Making, made, unmade}
use Rattle.line_reader.specs.SiteInput.{InputAnswer}

-- the choice by a family's code
abbrev pub by_code : {A : Type 0} → ℕ → A → A → A → A → A
by_code code division toeplitz evaluation other = cond (code == 1) division (cond (code == 2) toeplitz (cond (code == 3) evaluation other))

-- what is so of the family with the code
abbrev pub by_family : {A : Type 0} → ℕ → (Meaning → A) → A → A
by_family code f other = by_code code (f division_family) (f toeplitz_family) (f evaluation_family) other

-- 0 where something is taken, or the number of the refusal
abbrev pub refusal_number : {A : Type 0} → Answer A → ℕ
refusal_number (Ok a) = 0
refusal_number (Err n) = n

-- a hash, or 0 where there is none
abbrev pub hash_or_zero : Answer ℕ → ℕ
hash_or_zero (Ok h) = h
hash_or_zero (Err n) = 0

-- a refusal: the top bit, the number, and 48 bits for the place
abbrev pub packed : ℕ → ℕ → ℕ
packed number place = 2 ^ 63 + number * 2 ^ 48 + place

-- a number, or the greatest of so many bits where it is greater
abbrev pub capped : ℕ → ℕ → ℕ
capped bits n = min n (2 ^ bits - 1)

-- a line and a column, 24 bits each
abbrev pub packed_line_and_column : ℕ × ℕ → ℕ
packed_line_and_column place = capped 24 place.0 * 2 ^ 24 + capped 24 place.1

-- the length of an image, or a refusal with line and column
abbrev pub packed_length : Result ℕ (ℕ × (ℕ × ℕ)) → ℕ
packed_length (Ok n) = n
packed_length (Err e) = packed e.0 (packed_line_and_column e.1)

-- a verdict, or a refusal with its offset
abbrev pub packed_verdict : Verdict → ℕ
packed_verdict (says n) = n
packed_verdict (faulted number offset) = packed number (capped 48 offset)

-- making by a code without a family
abbrev pub no_image : ℕ → Making
no_image room = unmade room 4 0 0

-- what making by a code answers, and the output after it
abbrev pub made_by_code : ℕ → List ℕ → List ℕ → ℕ → Making
made_by_code code buffer text room =
    by_family code (λ M. made M buffer text room) (no_image room)

-- the answer of the program: the image's length, or a refusal
abbrev pub packed_seal : InputAnswer → ℕ
packed_seal (Ok s) = s.0
packed_seal (Err e) = packed_length (Err e)

-- the place of the seal after it
abbrev pub seal_after : InputAnswer → List ℕ → List ℕ
seal_after (Ok s) place = put place 0 (bytes_high_first 8 s.1)
seal_after (Err e) place = place
