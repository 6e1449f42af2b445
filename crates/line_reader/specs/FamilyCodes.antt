-- The codes of the families.
use Rattle.std.specs.Prelude.{◌≡◌, ℕ, cond, ◌||◌, Ok, Err, Result, ◌==◌}
use Rattle.hashes.specs.KeyFault.{Answer}
use Rattle.line_reader.specs.declared.family_code.FamilyCode.{FamilyCode}
use Rattle.line_reader.specs.declared.family_code.FamilyCode.TheVariants.{Division, Toeplitz, Evaluation}
use Rattle.line_reader.specs.declared.fault.InputFault.{InputFault}
use Rattle.line_reader.specs.InputFaults.{number_of_input_fault}
use Rattle.line_reader.specs.SiteInput.{Scheme, division_scheme, evaluation_scheme, toeplitz_scheme}

-- the code of a family
abbrev pub code_of_family : FamilyCode → ℕ
code_of_family Division = 1
code_of_family Toeplitz = 2
code_of_family Evaluation = 3

-- the scheme of a family, each hash by its closed formula
abbrev pub scheme_of_family : FamilyCode → Scheme
scheme_of_family Division = division_scheme
scheme_of_family Toeplitz = toeplitz_scheme
scheme_of_family Evaluation = evaluation_scheme

-- the codes of families; any other byte is refused by 4
abbrev pub picked : ℕ → Answer ℕ
picked code = cond (code == 1 || (code == 2 || code == 3)) (Ok code) (Err 4)

-- an answer by its number: a family by its code, a fault by its own
abbrev pub family_answer : Result FamilyCode InputFault → Answer ℕ
family_answer (Ok family) = Ok (code_of_family family)
family_answer (Err fault) = Err (number_of_input_fault fault)

-- what the code answers, by number, is what the byte picks
abbrev pub PicksFamily : ℕ → Result FamilyCode InputFault → Type 0
PicksFamily code result = family_answer result ≡ picked code
