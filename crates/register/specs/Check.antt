-- What the check of an image answers, and which images it passes.
use Rattle.std.specs.Prelude.{◌≡◌, ℕ, Bool, cond, if◌then◌else◌, List, [], length, Ok, Err, Result, ◌==◌}
use Rattle.hashes.specs.Family.{Meaning}
use Rattle.hashes.specs.KeyFault.{Answer}
use Rattle.hashes.specs.Word.{word}
use Rattle.register.specs.declared.fault.ImageFault.{ImageFault}
use Rattle.register.specs.Records.{Record}
use Rattle.register.specs.Faults.{number_of_image_fault}
use Rattle.register.specs.Book.{BookRecords}
use Rattle.register.specs.Image.{Outcome, compares, faulty, check, image}
use Rattle.register.specs.View.{View, standing, sealed, key_of, pad_of, opening}

-- A verdict: 1 or 0, or the number of a fault with the offset of its field.
pub data Verdict : Type 0 where
  says : ℕ → Verdict
  faulted : (number offset : ℕ) → Verdict

-- the code's answer as a verdict
abbrev pub verdict_of : Result Bool (ImageFault × ℕ) → Verdict
verdict_of (Ok passed) = says (if passed then 1 else 0)
verdict_of (Err e) = faulted (number_of_image_fault e.0) e.1

-- The check passes an image under a key buffer: the buffer opens, and the image is that of a book's records, with bytes that write their seal.
pub record Passes (M : Meaning) (buffer bytes : List ℕ) : Type 0 where
  pub opens : opening M buffer ≡ Ok (standing M (key_of M buffer) (pad_of M buffer) [])
  pub records : List Record
  pub book : BookRecords records
  pub seal : List ℕ
  pub eight_bytes : length seal ≡ 8
  pub framed : bytes ≡ image records M.code seal
  pub agrees : word seal ≡ sealed M (key_of M buffer) (pad_of M buffer) records

-- the verdict on an outcome: 1 where the seal bytes write the seal of the records, 0 where they do not
abbrev pub verdict : (M : Meaning) → List ℕ → ℕ → Outcome → Verdict
verdict M key pad (compares rs seal) = says (cond (word seal == sealed M key pad rs) 1 0)
verdict M key pad (faulty n offset) = faulted n offset

abbrev pub checked_by : (M : Meaning) → List ℕ → List ℕ → Answer (View M) → Verdict
checked_by M buffer bytes (Ok v) = verdict M (key_of M buffer) (pad_of M buffer) (check M.code bytes)
checked_by M buffer bytes (Err n) = faulted n 0

-- what the check of an image by a key buffer answers
abbrev pub checked : (M : Meaning) → List ℕ → List ℕ → Verdict
checked M buffer bytes = checked_by M buffer bytes (opening M buffer)
