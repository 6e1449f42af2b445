-- How an answer is printed: `sealed LENGTH SEAL`, or `refused NUMBER line LINE column COLUMN`.
use Rattle.std.specs.Prelude.{ℕ, zero, suc, ◌+◌, ◌/◌, ◌%◌, ◌^◌, if◌then◌else◌, nat_lt}
use Rattle.std.specs.Prelude.{List, [], ◌∷◌, ◌++◌, Ok, Err, codes}
use Rattle.std.specs.Fmt.{decimal}
use Rattle.line_reader.specs.SiteInput.{InputAnswer}

-- a hexadecimal digit: 48 is `0`, and 55 + 10 is `A`
abbrev pub hex_digit : ℕ → ℕ
hex_digit d = if nat_lt d 10 then 48 + d else 55 + d

-- the last `count` hexadecimal digits of a number, the highest first
unfoldable pub hex_digits : (count number : ℕ) → List ℕ
hex_digits zero number = []
hex_digits (suc count) number = hex_digit (number / 16 ^ count % 16) ∷ hex_digits count number

-- length and seal, or number, line and column: all in decimal but the seal, which has sixteen
-- hexadecimal digits
abbrev pub answer_text : InputAnswer → List ℕ
answer_text (Ok s) = codes "sealed " ++ (decimal s.0 ++ (codes " " ++ hex_digits 16 s.1))
answer_text (Err e) = codes "refused " ++ (decimal e.0 ++ (codes " line " ++ (decimal e.1.0
    ++ (codes " column " ++ decimal e.1.1))))

-- the one line of an answer, with the line feed at its end
abbrev pub answer_line : InputAnswer → List ℕ
answer_line answer = answer_text answer ++ (10 ∷ [])
