-- The promise holds, by what the register promises of runs and bounds.
use Rattle.std.proofs.Common.{◌≡◌, ℕ, ◌+◌, Bool, true, false, cond, eqb, List, [], ◌∷◌, ◌++◌, map, length, take, drop, Some, None, Ok, Err, Option, sym, refl, ap, ap₂, subst, ◌∙◌, arith, length-append, length-drop, length-take, take-append-drop}
use lib.Bits.{bit_xor}
use Rattle.std.proofs.ByRecursion.{All-weaker}
use Rattle.std.proofs.lemmas.Bool.{eq-eqb, eqb-false, eqb-true, ne_eqb}
use Rattle.std.proofs.lemmas.List.{drop_at, take_at}
use Rattle.hashes.specs.Family.{AtMost, Key, Meaning, hash}
use Rattle.hashes.specs.KeyFault.{Answer, answered, judged}
use Rattle.hashes.specs.Word.{Bytes, word}
use Rattle.register.specs.Book.{BookRecords}
use Rattle.register.specs.Check.{Passes}
use Rattle.register.specs.Facts.{MessageBounds, RegisterFacts, SealBounds}
use Rattle.register.specs.Records.{Record, message}
use Rattle.register.specs.Run.{Input, Reply, Run}
use Rattle.register.specs.View.{View, key_of, opening, pad_length, pad_of, sealed, standing}
use Rattle.line_reader.specs.declared.calls.Call.{Call}
use Rattle.line_reader.specs.declared.calls.Call.TheVariants.{Line, Point, Rule, Zone}
use Rattle.line_reader.specs.Calls.{CallAsks, CallsAsk, by_line, by_point, by_rule, by_zone, call_input, no_call, one_more}
use Rattle.line_reader.specs.Handover.{AnswersOne, ClosesTo, HandoverPromise, KeyAndPad, RefusedBuffer, SealsDiffer, SealsSite, Served, no_key, other_length, placed, records_of, refused, replies_if, replies_of, sealed_by, sealing, site_sealed}
use Rattle.line_reader.proofs.Asked.{lines_exact}

-- ---- what calls ask for

call_asks : (call : Call) → CallAsks call (call_input call)
call_asks (Line line) = by_line ((lines_exact line.now (call_input (Line line))).0 refl)
call_asks (Zone n name) = by_zone
call_asks (Point n z kind) = by_point
call_asks (Rule z n) = by_rule

call_asks_only : (call : Call) (input : Input) → CallAsks call input → call_input call ≡ input
call_asks_only (Line line) input (by_line asks) = (lines_exact line.now input).1 asks
call_asks_only _ _ by_zone = refl
call_asks_only _ _ by_point = refl
call_asks_only _ _ by_rule = refl

calls_ask : (calls : List Call) → CallsAsk calls (map call_input calls)
calls_ask [] = no_call
calls_ask (call ∷ calls) = one_more (call_asks call) (calls_ask calls)

calls_ask_only : (calls : List Call) (inputs : List Input) → CallsAsk calls inputs → map call_input calls ≡ inputs
calls_ask_only [] _ no_call = refl
calls_ask_only (call ∷ calls) _ (one_more {input = input} asks more) = ap₂ (λ (x : Input) (xs : List Input). x ∷ xs) (call_asks_only call input asks) (calls_ask_only calls _ more)

-- ---- the run of calls

module _ {M : Meaning} (facts : RegisterFacts M) where
  served_run : (calls : List Call) (replies : List Reply) (records : List Record)
      → Served calls replies records → Run [] (map call_input calls) replies records
  served_run calls replies records (inputs, asked, run) =
      subst (λ (xs : List Input). Run [] xs replies records)
      (sym (calls_ask_only calls inputs asked)) run

  served_is : (calls : List Call) (replies : List Reply) (records : List Record)
      → Served calls replies records → (replies ≡ replies_of calls) × (records ≡ records_of calls)
  served_is calls replies records served =
      let e = facts.one_run [] records (map call_input calls) replies
      (served_run calls replies records served) in (
        sym (ap (λ (p : List Reply × List Record). p.0) e),
        sym (ap (λ (p : List Reply × List Record). p.1) e),
      )

  is_served : (calls : List Call) (replies : List Reply) (records : List Record)
      → (replies ≡ replies_of calls) × (records ≡ records_of calls) → Served calls replies records
  is_served calls replies records h =
      subst (λ (xs : List Reply). Served calls xs records) (sym h.0)
      (subst (λ (rs : List Record). Served calls (replies_of calls) rs) (sym h.1)
      (map call_input calls, calls_ask calls, facts.runs_agree [] (map call_input calls)))

-- ---- key buffers

module _ (M : Meaning) {buffer key pad : List ℕ} (p : KeyAndPad M buffer key pad) where
  key_is : key_of M buffer ≡ key
  key_is = ap (key_of M) p.joined ∙ take_at key pad M.key_len p.key_sized

  pad_is : pad_of M buffer ≡ word pad
  pad_is = ap (pad_of M) p.joined ∙ ap word (drop_at key pad M.key_len p.key_sized)

  sized : length buffer ≡ M.key_len + pad_length
  sized = ap length p.joined ∙ length-append key pad
      ∙ ap₂ (λ (a b : ℕ). a + b) p.key_sized p.pad_sized

  -- opening by the number that refuses the key
  abbrev by_refusal : Option ℕ → Answer (View M)
  by_refusal o = judged (standing M (key_of M buffer) (pad_of M buffer) []) o

  opening_judges : opening M buffer ≡ by_refusal (M.refusal key)
  opening_judges =
      ap (λ (b : Bool). cond b (by_refusal (M.refusal (key_of M buffer))) (Err 1))
      (eq-eqb (length buffer) (M.key_len + pad_length) sized)
      ∙ ap (λ (k : List ℕ). by_refusal (M.refusal k)) key_is

parts : (M : Meaning) (buffer : List ℕ) → length buffer ≡ M.key_len + pad_length
    → KeyAndPad M buffer (key_of M buffer) (drop M.key_len buffer)
parts M buffer e = record {
  joined = sym (take-append-drop M.key_len buffer);
  key_sized = simp length-take (omega (arith, e));
  pad_sized = simp length-drop (omega (arith, e));
}

opening_refuses : (M : Meaning) (buffer : List ℕ) (n : ℕ) → RefusedBuffer M buffer n
    → opening M buffer ≡ Err n
opening_refuses M buffer _ (other_length h) =
    ap (λ (b : Bool).
    cond b (judged (standing M (key_of M buffer) (pad_of M buffer) [])
    (M.refusal (key_of M buffer))) (Err 1))
    (ne_eqb (length buffer) (M.key_len + pad_length) h)
opening_refuses M buffer _ (no_key p e) = opening_judges M p ∙ ap (by_refusal M p) e

-- ---- sealing a site

module _ {M : Meaning} (facts : RegisterFacts M) (buffer : List ℕ) (calls : List Call)
    (places : List Reply) where
  -- the answer and the places, by what opening answers
  abbrev site_by : Answer (View M) → Answer ℕ × List Reply
  site_by o = (
    answered (λ _. sealed M (key_of M buffer) (pad_of M buffer) (records_of calls)) o,
    placed (replies_if o calls) places,
  )

  sealed_is : {replies : List Reply} {seal : ℕ} → (c : ClosesTo M buffer calls replies seal) → seal
      ≡ sealed M (key_of M buffer) (pad_of M buffer) (records_of calls)
  sealed_is {replies} c =
      c.is ∙ ap (λ (rs : List Record). sealed M c.key (word c.pad) rs)
      (served_is facts calls replies c.records c.served).1
      ∙ ap₂ (λ (k : List ℕ) (w : ℕ). sealed M k w (records_of calls)) (sym (key_is M c.parts))
      (sym (pad_is M c.parts))

  -- a seal and the places
  abbrev closed : ℕ → List Reply → Answer ℕ × List Reply
  closed s replies = (Ok s, placed replies places)

  site_only : (answer : Answer ℕ) (later : List Reply)
      → SealsSite M buffer calls places answer later → (answer, later)
      ≡ site_sealed M buffer calls places
  site_only _ _ (refused {n} h) = sym (ap site_by (opening_refuses M buffer n h))
  site_only _ _ (sealed_by {replies} {seal} c) =
      ap₂ closed (sealed_is c) (served_is facts calls replies c.records c.served).0
      ∙ sym (ap site_by (opening_judges M c.parts ∙ ap (by_refusal M c.parts) c.taken))

  abbrev Site : Answer (View M) → Type 0
  Site o = SealsSite M buffer calls places (site_by o).0 (site_by o).1

  site_is : (answer : Answer ℕ) (later : List Reply) → (answer, later)
      ≡ site_sealed M buffer calls places → SealsSite M buffer calls places answer later
  site_is answer later e =
      subst (λ (p : Answer ℕ × List Reply). SealsSite M buffer calls places p.0 p.1) (sym e)
      (by_length (eqb (length buffer) (M.key_len + pad_length)) refl
      (M.refusal (key_of M buffer)) refl)
    where
      by_length : (b : Bool) → eqb (length buffer) (M.key_len + pad_length) ≡ b → (o : Option ℕ)
          → M.refusal (key_of M buffer) ≡ o
          → Site (cond b (judged (standing M (key_of M buffer) (pad_of M buffer) []) o) (Err 1))
      by_length false q o r =
          refused (other_length (eqb-false (length buffer) (M.key_len + pad_length) q))
      by_length true q (Some n) r =
          refused (no_key (parts M buffer (eqb-true (length buffer) (M.key_len + pad_length) q)) r)
      by_length true q None r = sealed_by (record {
        key = key_of M buffer;
        pad = drop M.key_len buffer;
        parts = parts M buffer (eqb-true (length buffer) (M.key_len + pad_length) q);
        taken = r;
        records = records_of calls;
        served = is_served facts calls (replies_of calls) (records_of calls) (refl, refl);
        is = refl;
      })

-- what the functions give is the outcome
pub site_outcome : (M : Meaning) (buffer : List ℕ) (calls : List Call) (places : List Reply)
    (answer : Answer ℕ) (later : List Reply) → RegisterFacts M
    → answer ≡ sealing M buffer calls → later ≡ placed (replies_if (opening M buffer) calls) places
    → SealsSite M buffer calls places answer later
site_outcome M buffer calls places answer later facts e h =
    site_is facts buffer calls places answer later
    (ap₂ (λ (a : Answer ℕ) (xs : List Reply). (a, xs)) e h)

-- ---- the bounds

at_most_weaker : (M : Meaning) (n : ℕ) (P Q : List ℕ → Type 0)
    → ((key : List ℕ) → Key M key → P key → Q key) → AtMost M n Q → AtMost M n P
at_most_weaker M n P Q f h keys once all =
    h keys once (All-weaker _ _ (λ key k. (k.0, f key k.0 k.1)) keys all)

module _ {M : Meaning} (facts : RegisterFacts M) where
  book : (calls : List Call) (replies : List Reply) (rs : List Record) → Served calls replies rs
      → BookRecords rs
  book calls replies rs served =
      (facts.runs_book (map call_input calls) replies rs
      (served_run facts calls replies rs served)).0

  -- a seal under a key and a pad, by the formula
  closing_is : (calls : List Call) (replies given : List Reply) (rs : List Record)
      (key pad : List ℕ) (seal : ℕ) → Key M key → Served calls replies rs
      → ClosesTo M (key ++ pad) calls given seal → seal ≡ sealed M key (word pad) rs
  closing_is calls replies given rs key pad seal k served c =
      sealed_is facts (key ++ pad) calls [] c
      ∙ ap₂ (λ (x : List ℕ) (w : ℕ). sealed M x w (records_of calls))
      (take_at key pad M.key_len k.sized) (ap word (drop_at key pad M.key_len k.sized))
      ∙ ap (sealed M key (word pad)) (sym (served_is facts calls replies rs served).1)

  passing : (key pad image : List ℕ) → Bytes image → AnswersOne M key pad image
      → Passes M (key ++ pad) image
  passing key pad image b h = (facts.passes_agree (key ++ pad) image b).0 h

pub promise_holds : (M : Meaning) → RegisterFacts M → SealBounds M → MessageBounds M
    → HandoverPromise M
promise_holds M facts bounds apart_bounds = record {
  determined =
      λ calls replies records.
      (served_is facts calls replies records, is_served facts calls replies records);
  one_outcome =
      λ buffer calls places later answer. (
        site_only facts buffer calls places answer later,
        site_is facts buffer calls places answer later,
      );
  closes = λ key pad calls replies places rs k eight served. sealed_by (record {
    key = key;
    pad = pad;
    parts = record { joined = refl; key_sized = k.sized; pad_sized = eight };
    taken = k.admitted;
    records = rs;
    served = served;
    is = refl;
  });
  seals_apart = λ calls calls' replies replies' rs rs' pad pad' d served served' apart.
      at_most_weaker M _ _ _
      (λ key k (given, given', seal, seal', c, c', e).
      ap₂ bit_xor (sym (closing_is facts calls replies given rs key pad seal k served c))
      (sym (closing_is facts calls' replies' given' rs' key pad' seal' k served' c')) ∙ e)
      (bounds.seals rs rs' (word pad) (word pad') d (book facts calls replies rs served)
      (book facts calls' replies' rs' served') apart);
  images_apart = λ image image' m m' pad bi bj of of' apart.
      rw (← (facts.message_agrees image m bi).1 of, ← (facts.message_agrees image' m' bj).1 of')
      (at_most_weaker M _ _ _
      (λ key k h. (passing facts key pad image bi h.0, passing facts key pad image' bj h.1))
      (bounds.images image image' pad bi bj apart));
  messages_apart = λ image image' m m' pad pad' bi bj of of' apart.
      let e = (facts.message_agrees image m bi).1 of in
      let e' = (facts.message_agrees image' m' bj).1 of' in
      rw (← e, ← e')
      (at_most_weaker M _ _ _
      (λ key k h. (passing facts key pad image bi h.0, passing facts key pad' image' bj h.1))
      (apart_bounds.messages image image' pad pad' bi bj (rw (e, e') apart)));
}
