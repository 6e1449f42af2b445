-- Calls made one after the other, as a run, and their replies in places.
use Rattle.std.proofs.Common.{◌≡◌, ℕ, suc, ◌+◌, ◌<◌, List, [], ◌∷◌, ◌++◌, map, length, get_or, take, set, Ok, sym, refl, ap, ◌∙◌, subst, arith, length-take-le}
use lib.ListN.{length-map}
use Rattle.std.proofs.lemmas.List.{map_push, take_more}
use Rattle.hashes.specs.Family.{Meaning}
use Rattle.hashes.specs.KeyFault.{Answer, answered}
use Rattle.register.specs.Facts.{RegisterFacts}
use Rattle.register.specs.Inputs.{input_after, input_reply}
use Rattle.register.specs.Records.{Record}
use Rattle.register.specs.Run.{Input, Reply, run, step}
use Rattle.register.specs.View.{View, key_of, opening, pad_of, seal, sealed, standing}
use Rattle.line_reader.specs.declared.calls.Call.{Call}
use Rattle.line_reader.specs.Calls.{call_input}
use Rattle.line_reader.specs.Handover.{placed, records_of, replies_if, replies_of, sealing}
use Rattle.line_reader.specs.Sending.{MakesCalls}

-- ---- places

abbrev cons : Reply → List Reply → List Reply
cons a as' = a ∷ as'

-- one reply more; where there is no place for it, nothing is put
placed_more : (given places : List Reply) (a : Reply) → set (placed given places) (length given) a ≡ placed (given ++ (a ∷ [])) places
placed_more [] [] a = refl
placed_more [] (p ∷ places) a = refl
placed_more (b ∷ given) [] a = refl
placed_more (b ∷ given) (p ∷ places) a = ap (cons b) (placed_more given places a)

-- ---- one call more

run_push : (before : List Record) (inputs : List Input) (x : Input)
    → ((run before (inputs ++ (x ∷ []))).0 ≡ (run before inputs).0 ++ ((step (run before inputs).1 x).0 ∷ [])) × ((run before (inputs ++ (x ∷ []))).1 ≡ (step (run before inputs).1 x).1)
run_push before [] x = (refl, refl)
run_push before (y ∷ inputs) x = let h = run_push (step before y).1 inputs x in (ap (cons (step before y).0) h.0, h.1)

run_length : (before : List Record) (inputs : List Input) → length (run before inputs).0 ≡ length inputs
run_length before [] = refl
run_length before (x ∷ inputs) = ap suc (run_length (step before x).1 inputs)

replies_length : (calls : List Call) → length (replies_of calls) ≡ length calls
replies_length calls = run_length [] (map call_input calls) ∙ length-map calls call_input

records_push : (calls : List Call) (call : Call) → records_of (calls ++ (call ∷ [])) ≡ (step (records_of calls) (call_input call)).1
records_push calls call = ap (λ (xs : List Input). (run [] xs).1) (map_push call_input calls call) ∙ (run_push [] (map call_input calls) (call_input call)).1

replies_push : (calls : List Call) (call : Call) → replies_of (calls ++ (call ∷ [])) ≡ replies_of calls ++ ((step (records_of calls) (call_input call)).0 ∷ [])
replies_push calls call = ap (λ (xs : List Input). (run [] xs).0) (map_push call_input calls call) ∙ (run_push [] (map call_input calls) (call_input call)).0

-- from a new register v the calls lead to w, and from the places as they were to those that hold the replies
abbrev pub Progress : (M : Meaning) → View M → View M → List Call → List Reply → List Reply → Type 0
Progress M v w calls places later =
    RegisterFacts M → (key : List ℕ) (pad : ℕ) → v ≡ standing M key pad []
    → (w ≡ standing M key pad (records_of calls)) × (later ≡ placed (replies_of calls) places)

module _ (M : Meaning) (v w u : View M) (calls : List Call) (call : Call) (places later : List Reply) (a : Reply)
    (so_far : Progress M v w calls places later) (replies : a ≡ input_reply M w (call_input call)) (leaves : u ≡ input_after M w (call_input call)) where
  module _ (facts : RegisterFacts M) (key : List ℕ) (pad : ℕ) (e : v ≡ standing M key pad []) where
    stands : u ≡ standing M key pad (records_of (calls ++ (call ∷ [])))
    stands =
        leaves ∙ ap (λ (x : View M). input_after M x (call_input call)) (so_far facts key pad e).0
        ∙ facts.calls_leave key pad (records_of calls) (call_input call)
        ∙ ap (standing M key pad) (sym (records_push calls call))

    reply_is : a ≡ (step (records_of calls) (call_input call)).0
    reply_is =
        replies ∙ ap (λ (x : View M). input_reply M x (call_input call)) (so_far facts key pad e).0
        ∙ facts.calls_reply key pad (records_of calls) (call_input call)

  -- its reply is put into its place
  pub progress_push : Progress M v u (calls ++ (call ∷ [])) places (set later (length calls) a)
  progress_push facts key pad e = (
    stands facts key pad e,
    ap (λ (xs : List Reply). set xs (length calls) a) (so_far facts key pad e).1
        ∙ ap (λ (n : ℕ). set (placed (replies_of calls) places) n a) (sym (replies_length calls))
        ∙ placed_more (replies_of calls) places a
        ∙ ap (λ (xs : List Reply). placed xs places)
        (ap (λ (x : Reply). replies_of calls ++ (x ∷ [])) (reply_is facts key pad e)
        ∙ sym (replies_push calls call)),
  )

-- the call at place i of all calls
pub progress_next : (M : Meaning) (v w u : View M) (calls : List Call) (i : ℕ) (d : Call) (places later next : List Reply) (a : Reply) → i < length calls
    → Progress M v w (take i calls) places later → a ≡ input_reply M w (call_input (get_or calls i d)) → u ≡ input_after M w (call_input (get_or calls i d))
    → next ≡ set later i a → Progress M v u (take (i + 1) calls) places next
progress_next M v w u calls i d places later next a h so_far replies leaves puts =
    subst (λ (xs : List Call). Progress M v u xs places next) (sym (take_more calls i d h))
    (subst (Progress M v u (take i calls ++ (get_or calls i d ∷ [])) places) (ap (λ (n : ℕ). set later n a) so_long ∙ sym puts)
    (progress_push M v w u (take i calls) (get_or calls i d) places later a so_far replies leaves))
  where
    so_long : length (take i calls) ≡ i
    so_long = length-take-le i calls (omega arith)

-- ---- from a key buffer

module _ (M : Meaning) (buffer : List ℕ) (calls : List Call) (v w : View M)
    (places later : List Reply) (facts : RegisterFacts M)
    (opens : Ok v ≡ opening M buffer) (made : MakesCalls M v w calls places later) where
  end : (w ≡ standing M (key_of M buffer) (pad_of M buffer) (records_of calls)) × (later ≡ placed (replies_of calls) places)
  end = made.makes facts (key_of M buffer) (pad_of M buffer) (facts.opens_new buffer v opens)

  pub calls_sealed : (s : ℕ) → s ≡ seal M w → Ok s ≡ sealing M buffer calls
  calls_sealed s e = ap Ok (e ∙ ap (seal M) end.0) ∙ ap (answered (λ _. sealed M (key_of M buffer) (pad_of M buffer) (records_of calls))) opens

  pub calls_replied : later ≡ placed (replies_if (opening M buffer) calls) places
  calls_replied = end.1 ∙ ap (λ (o : Answer (View M)). placed (replies_if o calls) places) opens
