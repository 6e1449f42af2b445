-- A call on a register that took records is a step of a run.
use Rattle.std.proofs.Common.{◌≡◌, ℕ, List, [], ◌∷◌, ◌++◌, Some, None, Option, sym, refl, ap, ◌∙◌, subst, ap₂, append-nil}
use Rattle.std.proofs.lemmas.List.Sums.{fold-append}
use Rattle.hashes.specs.Family.{Meaning, absorbed}
use Rattle.register.specs.declared.fault.RecordFault.{RecordFault}
use Rattle.register.specs.Faults.{number_of_record_fault}
use Rattle.register.specs.Records.{Record, field_of, bytes_of, message}
use Rattle.register.specs.Known.{Known, known_of, first_fault}
use Rattle.register.specs.Run.{Input, a_record, no_record, unread, taken, refused, Step, step, step_by}
use Rattle.register.specs.View.{View, standing, reply, reply_by, after, after_by}
use Rattle.register.specs.Inputs.{input_reply, input_after}
use Rattle.register.proofs.Books.{known_push}
use Rattle.register.proofs.Encoding.{message_append, message_more}
use Rattle.register.proofs.Runs.{step_sound}

pub message_push : (rs : List Record) (r : Record) → message (rs ++ (r ∷ [])) ≡ message rs ++ bytes_of (field_of r)
message_push rs r = message_append rs (r ∷ []) ∙ ap (λ m. message rs ++ m) (append-nil (bytes_of (field_of r)))

-- a reply by its row
refused_row : (known : Known) (r : Record) (k c : ℕ) (o : Option RecordFault) → refused k c ≡ reply_by known r o
    → (f : RecordFault) × (o ≡ Some f) × (k ≡ number_of_record_fault f)
refused_row known r k c None e = absurd cc
refused_row known r k c (Some f) e = (f, refl, cc)

taken_row : (known : Known) (r : Record) (n : ℕ) (o : Option RecordFault) → taken n ≡ reply_by known r o → o ≡ None
taken_row known r n None e = refl
taken_row known r n (Some g) e = absurd cc

module _ (M : Meaning) (key : List ℕ) (pad : ℕ) (rs : List Record) where
  standing_push : (r : Record) → after_by M (standing M key pad rs) r None ≡ standing M key pad (rs ++ (r ∷ []))
  standing_push r =
      ap₂ (λ (s : M.State) (k : Known). record { state = s; pad = pad; known = k })
      (sym (fold-append M.next (M.first key) (message rs) (bytes_of (field_of r)))
      ∙ ap (absorbed M (M.first key)) (sym (message_push rs r))) (known_push rs r)

  -- a call that was refused, and one that was taken
  module _ (r : Record) (v : View M) (stands : v ≡ standing M key pad rs) where
    pub call_refused : (k c : ℕ) → refused k c ≡ reply M v r → (f : RecordFault) × (first_fault rs r ≡ Some f) × (k ≡ number_of_record_fault f)
    call_refused k c a = refused_row (known_of rs) r k c (first_fault rs r) (a ∙ ap (λ (u : View M). reply M u r) stands)

    pub call_taken : (n : ℕ) (w : View M) → taken n ≡ reply M v r → w ≡ after M v r → (first_fault rs r ≡ None) × (w ≡ standing M key pad (rs ++ (r ∷ [])))
    call_taken n w a l =
        let none = taken_row (known_of rs) r n (first_fault rs r) (a ∙ ap (λ (u : View M). reply M u r) stands) in
        (none, l ∙ ap (λ (u : View M). after M u r) stands ∙ ap (after_by M (standing M key pad rs) r) none ∙ standing_push r)

  reply_step : (r : Record) (o : Option RecordFault) → reply_by (known_of rs) r o ≡ (step_by rs r o).0
  reply_step r None = ap taken (sym (message_more rs r))
  reply_step r (Some f) = refl

  after_step : (r : Record) (o : Option RecordFault) → after_by M (standing M key pad rs) r o ≡ standing M key pad (step_by rs r o).1
  after_step r None = standing_push r
  after_step r (Some f) = refl

  -- what a call replies and leaves is the step's
  pub input_replies : (input : Input) → input_reply M (standing M key pad rs) input ≡ (step rs input).0
  input_replies (a_record r) = reply_step r (first_fault rs r)
  input_replies no_record = refl
  input_replies (unread n column) = refl

  pub input_leaves : (input : Input) → input_after M (standing M key pad rs) input ≡ standing M key pad (step rs input).1
  input_leaves (a_record r) = after_step r (first_fault rs r)
  input_leaves no_record = refl
  input_leaves (unread n column) = refl

  pub calls_follow : (input : Input) →
      (later : List Record) × Step rs input (input_reply M (standing M key pad rs) input) later × (input_after M (standing M key pad rs) input ≡ standing M key pad later)
  calls_follow input =
      ((step rs input).1, subst (λ a. Step rs input a (step rs input).1) (sym (input_replies input)) (step_sound rs input), input_leaves input)
