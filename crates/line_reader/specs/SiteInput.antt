-- The seal of a whole input of the program: a code byte, a key buffer, and the text of a site.
use Rattle.std.specs.Prelude.{ℕ, ◌+◌, cond, List, [], ◌∷◌, length, take, drop, Some, None, Ok, Err, Option, Result, ◌==◌, bit_xor, nat_le}
use Rattle.hashes.specs.Division.{division_hash}
use Rattle.hashes.specs.Evaluation.{evaluation_hash}
use Rattle.hashes.specs.Family.{Meaning, hash}
use Rattle.hashes.specs.KeyFault.{reducible_refusal, zero_refusal}
use Rattle.hashes.specs.Toeplitz.{first_state_of, taps_of, toeplitz_hash, toeplitz_refusal}
use Rattle.hashes.specs.Word.{word}
use Rattle.register.specs.Fields.{seal_field_length}
use Rattle.register.specs.Records.{message}
use Rattle.line_reader.specs.Making.{Sent, all_taken, stopped, sent}
use Rattle.line_reader.specs.Texts.{lines_of}

-- What a code picks: how long a key is, the number that a string of that length is refused by, and the hash of a message.
pub record Scheme : Type 0 where
  pub key_len : ℕ
  pub refusal : List ℕ → Option ℕ
  pub formula : (key message : List ℕ) → ℕ

-- the three codes, each hash by its closed formula
abbrev pub division_scheme : Scheme
division_scheme = record { key_len = 8; refusal = λ key. reducible_refusal (word key); formula = λ key m. division_hash (word key) m }

abbrev pub toeplitz_scheme : Scheme
toeplitz_scheme = record {
  key_len = 16;
  refusal = λ key. toeplitz_refusal (taps_of key) (first_state_of key);
  formula = λ key m. toeplitz_hash (taps_of key) (first_state_of key) m;
}

abbrev pub evaluation_scheme : Scheme
evaluation_scheme = record { key_len = 8; refusal = λ key. zero_refusal (word key); formula = λ key m. evaluation_hash (word key) m }

-- the scheme of a code
abbrev pub scheme_by : ℕ → Option Scheme
scheme_by code =
    cond (code == 1) (Some division_scheme) (cond (code == 2) (Some toeplitz_scheme) (cond (code == 3) (Some evaluation_scheme) None))

-- the same of a family, by its meaning
abbrev pub scheme_of : Meaning → Scheme
scheme_of M = record { key_len = M.key_len; refusal = M.refusal; formula = hash M }

-- An answer: the image's length and the seal, or a refusal's number with the line and the column.
abbrev pub InputAnswer : Type 0
InputAnswer = Result (ℕ × ℕ) (ℕ × (ℕ × ℕ))

-- a refusal in which no line is at fault
abbrev pub no_seal : ℕ → InputAnswer
no_seal number = Err (number, (0, 0))

-- by what the lines come to: the image is the message and twelve bytes of seal field, and the seal the message's hash combined with the pad
abbrev pub seal_of_lines : Scheme → List ℕ → ℕ → Sent → InputAnswer
seal_of_lines S key pad (all_taken rs) = Ok (length (message rs) + seal_field_length, bit_xor (S.formula key (message rs)) pad)
seal_of_lines S key pad (stopped number line column) = Err (number, (line, column))

-- a refused key comes before what the lines come to
abbrev pub unless_refused_key : Option ℕ → InputAnswer → InputAnswer
unless_refused_key None later = later
unless_refused_key (Some n) later = no_seal n

-- a key, eight pad bytes and a text; 1 where the key buffer is short
abbrev pub seal_by_scheme : Scheme → List ℕ → InputAnswer
seal_by_scheme S rest =
    let key = take S.key_len rest in
    let pad = word (take 8 (drop S.key_len rest)) in
    let text = drop (S.key_len + 8) rest in
    cond (nat_le (S.key_len + 8) (length rest)) (unless_refused_key (S.refusal key) (seal_of_lines S key pad (sent [] (lines_of text) 1))) (no_seal 1)

-- 4 where the code picks nothing
abbrev pub seal_by : Option Scheme → List ℕ → InputAnswer
seal_by None rest = no_seal 4
seal_by (Some S) rest = seal_by_scheme S rest

-- or where there is no code
abbrev pub seal_of_parts : Option ℕ → List ℕ → InputAnswer
seal_of_parts None rest = no_seal 4
seal_of_parts (Some code) rest = seal_by (scheme_by code) rest

-- the code byte of an input
abbrev pub code_of : List ℕ → Option ℕ
code_of [] = None
code_of (code ∷ rest) = Some code

-- the longest input, in bytes
abbrev pub longest_input : ℕ
longest_input = 65536

-- the answer to an input
abbrev pub input_answer : List ℕ → InputAnswer
input_answer input = cond (nat_le (length input) longest_input) (seal_of_parts (code_of input) (drop 1 input)) (no_seal 5)
