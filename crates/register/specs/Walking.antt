-- What the check answers on its way through an image.
use Rattle.std.specs.Prelude.{◌≡◌, ℕ, cond, List, [], Some, None, Ok, Err, Option, Result, ◌==◌}
use Rattle.hashes.specs.Family.{Meaning}
use Rattle.hashes.specs.Word.{word}
use Rattle.register.specs.declared.fault.ImageFault.{ImageFault}
use Rattle.register.specs.declared.fault.ImageFault.TheVariants.{Framing, Code}
use Rattle.register.specs.Faults.{number_of_image_fault}
use Rattle.register.specs.Image.{Outcome, compares, faulty, check}
use Rattle.register.specs.View.{View, standing}

-- an answer that fits an outcome: the word that the seal bytes write, by a register that took the records; or the fault and its offset
abbrev pub Answers : (M : Meaning) → List ℕ → ℕ → Outcome → Result ℕ (ImageFault × ℕ) → View M → Type 0
Answers M key pad (compares rs seal) (Ok w) v = (w ≡ word seal) × (v ≡ standing M key pad rs)
Answers M key pad (compares rs seal) (Err e) v = ⊥
Answers M key pad (faulty n offset) (Ok w) v = ⊥
Answers M key pad (faulty n offset) (Err e) v = (number_of_image_fault e.0 ≡ n) × (e.1 ≡ offset)

-- the whole way, from a new register v to a register w
pub record Walks (M : Meaning) (v : View M) (image : List ℕ) (r : Result ℕ (ImageFault × ℕ)) (w : View M) : Type 0 where
  pub answers : (key : List ℕ) (pad : ℕ) → v ≡ standing M key pad [] → Answers M key pad (check M.code image) r w

-- the answer at a field that is no record's, from `start` to `stop` in an image that ends at `end`
abbrev pub seal_field_answer : Option (ℕ × ℕ) → ℕ → ℕ → ℕ → ℕ → Result ℕ (ImageFault × ℕ)
seal_field_answer None code start stop end = Err (Framing, start)
seal_field_answer (Some found) code start stop end =
    cond (stop == end) (cond (found.0 == code) (Ok found.1) (Err (Code, start))) (Err (Framing, stop))
