-- What is printed of a verdict, of a tally, and of the lines of answers.
use Rattle.std.specs.Prelude.{ℕ, ◌-◌, ◌^◌, List, [], ◌++◌, false, true, codes}
use Rattle.std.specs.Fmt.{decimal, digits, format_spec, padded_integral}
use Rattle.tally.specs.declared.Tally.{Tally}
use Rattle.tally.specs.declared.Verdict.{Verdict}
use Rattle.tally.specs.declared.Verdict.TheVariants.{Same, Differs}

abbrev pub verdict_text : Verdict → List ℕ
verdict_text Same = codes "ok"
verdict_text Differs = codes "differs"

abbrev pub tally_text : Tally → List ℕ
tally_text tally =
    decimal tally.lines ++ (codes " lines, " ++ (decimal tally.differ ++ codes " differ"))

-- a word in sixteen upper-case hexadecimal digits
abbrev pub sixteen_digits : ℕ → List ℕ
sixteen_digits word =
    padded_integral (format_spec 32 0 4 16 (2 ^ 64 - 1)) false [] (digits 16 true word)

abbrev pub line_text : List ℕ → Verdict → List ℕ
line_text what verdict = what ++ (codes ": " ++ verdict_text verdict)

abbrev pub word_line_text : List ℕ → ℕ → Verdict → List ℕ
word_line_text what word verdict =
    what ++ (codes ": " ++ (sixteen_digits word ++ (codes " " ++ verdict_text verdict)))
