-- From the check's way through an image to its verdict.
use Rattle.std.proofs.Common.{◌≡◌, ℕ, ◌+◌, Bool, true, false, cond, eqb, List, [], length, Some, None, Ok, Err, Option, refl, ap, ◌∙◌, ap₂}
use Rattle.std.proofs.lemmas.Bool.{eqb-true}
use Rattle.hashes.specs.Family.{Meaning}
use Rattle.hashes.specs.KeyFault.{judged}
use Rattle.register.specs.declared.fault.ImageFault.{ImageFault}
use Rattle.register.specs.Faults.{number_of_image_fault}
use Rattle.register.specs.Image.{Outcome, compares, faulty, check}
use Rattle.register.specs.View.{View, standing, seal, opening, pad_length, key_of, pad_of}
use Rattle.register.specs.Check.{says, faulted, verdict, checked, checked_by}
use Rattle.register.specs.Walking.{Answers}

-- what is given was asked for, and there is no refusal
pub judged_is : {V : Type 0} (v w : V) (o : Option ℕ) → Ok v ≡ judged w o → (v ≡ w) × (o ≡ None)
judged_is v w None e = (cc, refl)
judged_is v w (Some n) e = absurd cc

sized_is : {V : Type 0} (b : Bool) (v w : V) (o : Option ℕ) → Ok v ≡ cond b (judged w o) (Err 1) → (b ≡ true) × (v ≡ w) × (o ≡ None)
sized_is true v w o e = let j = judged_is v w o e in (refl, j.0, j.1)
sized_is false v w o e = absurd cc

-- a buffer that opens has the right length, holds a key, and gives a register that took no record
pub opened_parts : (M : Meaning) (buffer : List ℕ) (v : View M) → Ok v ≡ opening M buffer
    → (eqb (length buffer) (M.key_len + pad_length) ≡ true)
    × (v ≡ standing M (key_of M buffer) (pad_of M buffer) []) × (M.refusal (key_of M buffer) ≡ None)
opened_parts M buffer v e =
    sized_is (eqb (length buffer) (M.key_len + pad_length)) v _ (M.refusal (key_of M buffer)) e

pub opened_key : (M : Meaning) (buffer : List ℕ) (v : View M) → Ok v ≡ opening M buffer
    → (length buffer ≡ M.key_len + pad_length) × (M.refusal (key_of M buffer) ≡ None)
opened_key M buffer v e = let o =
    opened_parts M buffer v e in (eqb-true (length buffer) (M.key_len + pad_length) o.0, o.2)

pub opened_is : (M : Meaning) (buffer : List ℕ) (v : View M) → Ok v ≡ opening M buffer → v ≡ standing M (key_of M buffer) (pad_of M buffer) []
opened_is M buffer v e = (opened_parts M buffer v e).1

module _ (M : Meaning) (key : List ℕ) (pad : ℕ) where
  verdict_says : (o : Outcome) (s : ℕ) (w : View M) → Answers M key pad o (Ok s) w → says (cond (eqb s (seal M w)) 1 0) ≡ verdict M key pad o
  verdict_says (compares rs bytes) s w h = ap₂ (λ (x : ℕ) (u : View M). says (cond (eqb x (seal M u)) 1 0)) h.0 h.1
  verdict_says (faulty n offset) s w h = absurd h

  verdict_faults : (o : Outcome) (e : ImageFault × ℕ) (w : View M) → Answers M key pad o (Err e) w → faulted (number_of_image_fault e.0) e.1 ≡ verdict M key pad o
  verdict_faults (compares rs bytes) e w h = absurd h
  verdict_faults (faulty n offset) e w h = ap₂ faulted h.0 h.1

-- of a buffer that opens
module _ (M : Meaning) (buffer image : List ℕ) (v : View M) (opens : Ok v ≡ opening M buffer) where
  pub check_says : (s : ℕ) (w : View M) → Answers M (key_of M buffer) (pad_of M buffer) (check M.code image) (Ok s) w
      → says (cond (eqb s (seal M w)) 1 0) ≡ checked M buffer image
  check_says s w h = verdict_says M (key_of M buffer) (pad_of M buffer) (check M.code image) s w h ∙ ap (checked_by M buffer image) opens

  pub check_faults : (e : ImageFault × ℕ) (w : View M) → Answers M (key_of M buffer) (pad_of M buffer) (check M.code image) (Err e) w
      → faulted (number_of_image_fault e.0) e.1 ≡ checked M buffer image
  check_faults e w h = verdict_faults M (key_of M buffer) (pad_of M buffer) (check M.code image) e w h ∙ ap (checked_by M buffer image) opens
