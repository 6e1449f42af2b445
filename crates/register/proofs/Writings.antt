-- Fields written after a message.
use Rattle.std.proofs.Common.{◌≡◌, ℕ, ◌+◌, ◌-◌, ◌≤◌, cond, List, [], ◌∷◌, ◌++◌, length, take, drop, replicate, Some, None, Option, sym, refl, ap, ◌∙◌, append_assoc, arith, length-append}
use lib.ListN.{length-replicate}
use lib.Seq.{drop-append-add}
use Rattle.std.proofs.lemmas.List.{take_at, drop-replicate}
use Rattle.std.proofs.lemmas.Bool.{le-leb}
use Rattle.hashes.specs.Family.{Meaning}
use Rattle.register.specs.declared.fault.RecordFault.{RecordFault}
use Rattle.register.specs.Records.{Record, field_of, bytes_of, message}
use Rattle.register.specs.Known.{known_of}
use Rattle.register.specs.Known.{first_fault}
use Rattle.register.specs.Run.{Input, a_record, no_record, unread, step, step_by}
use Rattle.register.specs.View.{standing}
use Rattle.register.specs.Writing.{written, put, filled_up, Holds, output_by}
use Rattle.register.specs.Inputs.{input_output}
use Rattle.register.proofs.Steps.{message_push}

-- where there is room
pub put_fits : (out : List ℕ) (at : ℕ) (xs : List ℕ) → at + length xs ≤ length out → put out at xs ≡ written out at xs
put_fits out at xs h = ap (λ b. cond b (written out at xs) out) (le-leb (at + length xs) (length out) h)

-- bytes written after others, over zeros
pub written_more : (n at : ℕ) (m f : List ℕ) → length m ≡ at → written (filled_up n m) at f ≡ filled_up n (m ++ f)
written_more n at m f e =
    let z : List ℕ = replicate (n - length m) 0 in
    let a : take at (m ++ z) ≡ m = take_at m z at e in
    let d : drop (at + length f) (m ++ z) ≡ replicate (n - length (m ++ f)) 0
    = ap (λ k. drop (k + length f) (m ++ z)) (sym e) ∙ drop-append-add m z (length f)
    ∙ drop-replicate (length f) (n - length m) 0
    ∙ ap (λ k. replicate k 0) (let l : length (m ++ f) ≡ length m + length f = length-append m f in omega arith) in
    ap (λ x. x ++ (f ++ drop (at + length f) (m ++ z))) a
    ∙ ap (λ x. m ++ (f ++ x)) d
    ∙ sym (append_assoc m f (replicate (n - length (m ++ f)) 0))

pub length_filled_up : (n : ℕ) (m : List ℕ) → length m ≤ n → length (filled_up n m) ≡ n
length_filled_up n m h = length-append m (replicate (n - length m) 0) ∙ ap (λ k. length m + k) (length-replicate (n - length m) 0) ∙ omega arith

-- bytes put after a message, over zeros
pub put_more : (n : ℕ) (m f out : List ℕ) → length (m ++ f) ≤ n → out ≡ filled_up n m → put out (length m) f ≡ filled_up n (m ++ f)
put_more n m f out h e =
    let l : length (m ++ f) ≡ length m + length f = length-append m f in
    let size : length (filled_up n m) ≡ n = length_filled_up n m (omega arith) in
    ap (λ o. put o (length m) f) e ∙ put_fits (filled_up n m) (length m) f (omega (arith, l, size)) ∙ written_more n (length m) m f refl

-- the field of a record taken
put_field : (room : ℕ) (rs : List Record) (r : Record) (out : List ℕ) → Holds room rs out → Holds room (rs ++ (r ∷ [])) (put out (known_of rs).bytes (bytes_of (field_of r)))
put_field room rs r out holds fits =
    let more = message_push rs r in
    let l = length-append (message rs) (bytes_of (field_of r)) in
    let n = ap length more in
    put_more room (message rs) (bytes_of (field_of r)) out (omega (arith, l, n, fits)) (holds (omega (arith, l, n, fits))) ∙ ap (filled_up room) (sym more)

-- an output that holds the message holds it after each call
pub outputs_follow : (M : Meaning) (key : List ℕ) (pad room : ℕ) (before : List Record) (input : Input) (out : List ℕ) →
    Holds room before out → Holds room (step before input).1 (input_output M (standing M key pad before) input out)
outputs_follow M key pad room before (a_record r) out holds = go (first_fault before r)
  where
    go : (o : Option RecordFault) → Holds room (step_by before r o).1 (output_by (known_of before) r out o)
    go None = put_field room before r out holds
    go (Some f) = holds
outputs_follow M key pad room before no_record out holds = holds
outputs_follow M key pad room before (unread n column) out holds = holds
