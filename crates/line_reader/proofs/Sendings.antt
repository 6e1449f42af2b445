-- The lines of a text, sent one after the other to a register and written into an output.
use Rattle.std.proofs.Common.{◌≡◌, ℕ, ◌+◌, List, [], ◌∷◌, Ok, Err, Result, sym, ap, ◌∙◌}
use Rattle.hashes.specs.Family.{Meaning}
use Rattle.register.specs.Facts.{RegisterFacts}
use Rattle.register.specs.Inputs.{input_after, input_output, input_reply}
use Rattle.register.specs.Records.{Record}
use Rattle.register.specs.Run.{Reply, refused, step, taken}
use Rattle.register.specs.View.{View, opening, standing}
use Rattle.register.specs.Writing.{Holds}
use Rattle.line_reader.specs.Calls.{line_input}
use Rattle.line_reader.specs.Making.{sent, stopped, unless_refused}
use Rattle.line_reader.specs.MakeFaults.{line_and_column_of_make_fault, number_of_make_fault}
use Rattle.line_reader.specs.Sending.{LinesSent, SendsText, by_buffer}
use Rattle.line_reader.specs.declared.fault.MakeFault.{MakeFault}
use Rattle.line_reader.specs.Texts.{lines_of}

-- the lines before the rest of a text were taken: those of the rest come to what all of them do
pub record Sending (M : Meaning) (key : List ℕ) (pad : ℕ) (text : List ℕ) (v : View M) (room : ℕ) (out rest : List ℕ) (number : ℕ) : Type 0 where
  pub records : List Record
  pub stands : v ≡ standing M key pad records
  pub holds : Holds room records out
  pub whole : sent records (lines_of rest) number ≡ sent [] (lines_of text) 1

module _ {M : Meaning} (facts : RegisterFacts M) {key : List ℕ} {pad : ℕ} {text : List ℕ}
    {v : View M} {room : ℕ} {out rest : List ℕ} {number : ℕ}
    (p : Sending M key pad text v room out rest number) where
  module _ (line after : List ℕ) (cut : lines_of rest ≡ line ∷ lines_of after) where
    -- all lines come to what the first line of the rest and those after it do
    by_reply : (a : Reply) → a ≡ input_reply M v (line_input line)
        → unless_refused a number (sent (step p.records (line_input line)).1 (lines_of after) (number + 1)) ≡ sent [] (lines_of text) 1
    by_reply a e =
        ap (λ (x : Reply). unless_refused x number (sent (step p.records (line_input line)).1 (lines_of after) (number + 1)))
        (e ∙ ap (λ (u : View M). input_reply M u (line_input line)) p.stands
        ∙ facts.calls_reply key pad p.records (line_input line))
        ∙ ap (λ (ls : List (List ℕ)). sent p.records ls number) (sym cut)
        ∙ p.whole

    -- it is refused
    pub sending_stops : (k c : ℕ) → refused k c ≡ input_reply M v (line_input line) → sent [] (lines_of text) 1 ≡ stopped k number c
    sending_stops k c e = sym (by_reply (refused k c) e)

    -- it is taken
    pub sending_goes : (n : ℕ) (w : View M) (later : List ℕ) → taken n ≡ input_reply M v (line_input line) → w ≡ input_after M v (line_input line)
        → later ≡ input_output M v (line_input line) out → Sending M key pad text w room later after (number + 1)
    sending_goes n w later e leaves writes =
        record {
          records = (step p.records (line_input line)).1;
          stands =
              leaves ∙ ap (λ (u : View M). input_after M u (line_input line)) p.stands
              ∙ facts.calls_leave key pad p.records (line_input line);
          holds = λ fits.
              writes ∙ ap (λ (u : View M). input_output M u (line_input line) out) p.stands
              ∙ facts.outputs_follow key pad room p.records (line_input line) out p.holds fits;
          whole = by_reply (taken n) e;
        }

  -- no line is left
  pub sending_ends : rest ≡ [] → LinesSent M key pad text (Ok tt) v room out
  sending_ends none = (p.records, sym p.whole ∙ ap (λ (t : List ℕ). sent p.records (lines_of t) number) none, p.stands, p.holds)

-- the key buffer is refused
pub buffer_refused : (M : Meaning) (buffer text : List ℕ) (r : Result (ℕ × ℕ) MakeFault)
    (f : MakeFault) (n : ℕ) (out later : List ℕ) → r ≡ Err f
    → (number_of_make_fault f ≡ n) × (line_and_column_of_make_fault f ≡ (0, 0)) → Err n
    ≡ opening M buffer → SendsText M buffer text r out later
buffer_refused M buffer text r f n out later e h o =
    rw e (record { sends = λ z. rw (h.0, h.1) (by_buffer (sym o)) })
