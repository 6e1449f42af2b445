-- Byte strings, and the words that they write.
use Rattle.std.specs.Prelude.{ℕ, List}
use Rattle.std.specs.Int.Digits.{AllBelowBase, number_from_digits}

-- a string of bytes: each element is below 256
abbrev pub Bytes : List ℕ → Type 0
Bytes bs = AllBelowBase 256 bs

-- the number that the bytes write in base 256, the highest byte first
abbrev pub word : List ℕ → ℕ
word bs = number_from_digits 256 bs
