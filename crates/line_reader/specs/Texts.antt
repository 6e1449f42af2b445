-- Texts: the lines that one is cut into, and a text that spells some records.
use Rattle.std.specs.Prelude.{◌≡◌, ℕ, ◌+◌, ◌<◌, cond, List, [], ◌∷◌, ◌++◌, length, map, codes, Option, MatchOption, ◌==◌}
use Rattle.std.specs.Int.Digits.{digits_of}
use Rattle.register.specs.Records.{Record, zone, point, rule}
use Rattle.line_reader.specs.declared.kind.Kind.{Kind}
use Rattle.line_reader.specs.declared.kind.Kind.TheVariants.{Smoke, Heat, Call, Sounder}
use Rattle.line_reader.specs.Grammar.{spelling}

-- a byte at the front of the first line
abbrev pub on_first : ℕ → List (List ℕ) → List (List ℕ)
on_first b [] = (b ∷ []) ∷ []
on_first b (l ∷ ls) = (b ∷ l) ∷ ls

-- the lines of a text: each ends before a 0A, and what follows the last one counts as a line unless it is empty
abbrev pub lines_of : List ℕ → List (List ℕ)
lines_of [] = []
lines_of (b ∷ bs) = cond (b == 0x0A) ([] ∷ lines_of bs) (on_first b (lines_of bs))

-- a text gives its first line, if there is one, and later is what is left after its line feed
abbrev pub TakesLine : List ℕ → Option (List ℕ) → List ℕ → Type 0
TakesLine text found later = MatchOption found (text ≡ []) (λ line. (lines_of text ≡ line ∷ lines_of later) × (length later < length text))

-- a number in decimal digits
abbrev pub decimal : ℕ → List ℕ
decimal n = map (λ d. 48 + d) (digits_of 10 n)

-- a name as it is written: a quote, a backslash and a line feed by their escapes
abbrev pub escaped : List ℕ → List ℕ
escaped [] = []
escaped (b ∷ bs) =
    cond (b == 34) (92 ∷ 34 ∷ escaped bs) (cond (b == 92) (92 ∷ 92 ∷ escaped bs) (cond (b == 10) (92 ∷ 110 ∷ escaped bs) (b ∷ escaped bs)))

-- the kind with a number; it is asked of 1 to 4 alone
abbrev pub kind_of : ℕ → Kind
kind_of k = cond (k == 1) Smoke (cond (k == 2) Heat (cond (k == 3) Call Sounder))

-- the line that spells a record
abbrev pub line_of : Record → List ℕ
line_of (zone n name) = codes "zone " ++ (decimal n ++ (codes " \"" ++ (escaped name ++ codes "\"")))
line_of (point n z k) = codes "point " ++ (decimal n ++ (codes " " ++ (decimal z ++ (codes " " ++ spelling (kind_of k)))))
line_of (rule z p) = codes "rule " ++ (decimal z ++ (codes " " ++ decimal p))

-- the lines of records, each with a line feed after it
abbrev pub text_of : List Record → List ℕ
text_of [] = []
text_of (r ∷ rs) = line_of r ++ (0x0A ∷ text_of rs)
