-- The program's answer to an input is that of the image which making writes for the same text and
-- key buffer.
use Rattle.std.specs.Prelude.{◌≡◌, ℕ, ◌+◌, ◌-◌, ◌≤◌, List, ◌∷◌, ◌++◌, length, take, drop, Ok, Err, Result}
use Rattle.hashes.specs.Division.{division_family}
use Rattle.hashes.specs.Evaluation.{evaluation_family}
use Rattle.hashes.specs.Family.{Meaning}
use Rattle.hashes.specs.Toeplitz.{toeplitz_family}
use Rattle.hashes.specs.Word.{Bytes, word}
use Rattle.register.specs.Book.{longest_message}
use Rattle.register.specs.Fields.{seal_field_length}
use Rattle.register.specs.View.{pad_length}
use Rattle.line_reader.specs.Making.{made}
use Rattle.line_reader.specs.SiteInput.{InputAnswer, input_answer, longest_input}

-- the longest image, in bytes
abbrev pub longest_image : ℕ
longest_image = longest_message + seal_field_length

-- an image's length and the seal that its last eight bytes write, where making answers the length
-- and leaves the image in front of an output; or the refusal
abbrev pub image_answer : Result ℕ (ℕ × (ℕ × ℕ)) → List ℕ → InputAnswer
image_answer (Ok n) out = Ok (n, word (take 8 (drop (n - 8) out)))
image_answer (Err e) out = Err e

-- Code, key buffer and text as one input, if that is not too long. The output of making has room
-- for any image.
abbrev pub AsMade : Meaning → Type 0
AsMade M = (buffer text : List ℕ) (room : ℕ) → Bytes buffer → Bytes text
    → length buffer ≡ M.key_len + pad_length
    → length (M.code ∷ (buffer ++ text)) ≤ longest_input → longest_image ≤ room
    → input_answer (M.code ∷ (buffer ++ text))
    ≡ image_answer (made M buffer text room).0 (made M buffer text room).1

pub record InputsAsMade : Type 0 where
  pub by_division : AsMade division_family
  pub by_toeplitz : AsMade toeplitz_family
  pub by_evaluation : AsMade evaluation_family
