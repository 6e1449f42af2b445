-- The seal of a text behind its key buffer, by a family's meaning and by its closed formula.
use Rattle.std.proofs.Common.{◌≡◌, ℕ, ◌+◌, ◌<◌, ◌≤◌, Bool, true, false, cond, eqb, leb, List, [], length, take, drop, Some, Ok, Option, None, sym, refl, ap, ◌∙◌, ap₂, subst, arith, length-take, take-take, Err}
use lib.Bits.{bit_xor}
use Rattle.std.proofs.ByRecursion.{All-drop, All-take}
use Rattle.std.proofs.lemmas.List.{drop-take}
use Rattle.std.proofs.lemmas.Slice.{between_to_end}
use Rattle.std.proofs.lemmas.Bool.{eq-eqb, le-leb, leb-true}
use Rattle.hashes.specs.Division.{division_family}
use Rattle.hashes.specs.Evaluation.{evaluation_family}
use Rattle.hashes.specs.Family.{Meaning, hash}
use Rattle.hashes.specs.KeyFault.{judged, Answer}
use Rattle.hashes.specs.Toeplitz.{toeplitz_family}
use Rattle.hashes.specs.Word.{Bytes, word}
use Rattle.hashes.specs.DivisionFamily.{division_facts}
use Rattle.hashes.specs.EvaluationFamily.{evaluation_facts}
use Rattle.hashes.specs.ToeplitzFamily.{toeplitz_facts}
use Rattle.register.specs.Facts.{RegisterFacts}
use Rattle.register.specs.Records.{Record, message}
use Rattle.register.specs.View.{View, key_of, opening, pad_of, sealed, standing}
use Rattle.line_reader.specs.Making.{Sent, all_taken, stopped, sent}
use Rattle.line_reader.specs.Sending.{RefusedText, by_buffer, by_line}
use Rattle.line_reader.specs.declared.family_code.FamilyCode.{FamilyCode}
use Rattle.line_reader.specs.declared.family_code.FamilyCode.TheVariants.{Division, Toeplitz, Evaluation}
use Rattle.line_reader.specs.FamilyCodes.{code_of_family, family_answer, picked, scheme_of_family}
use Rattle.line_reader.specs.SiteInput.{Scheme, InputAnswer, code_of, division_scheme, evaluation_scheme, longest_input, no_seal, scheme_by, scheme_of, seal_by, seal_by_scheme, seal_of_lines, seal_of_parts, input_answer, toeplitz_scheme, unless_refused_key}
use Rattle.line_reader.specs.Texts.{lines_of}
use Rattle.line_reader.proofs.Fronts.{rest_of}
use Rattle.line_reader.proofs.TextsPass.{sent_book}

-- ---- by the meaning

module _ (M : Meaning) (rest : List ℕ) where
  pub key_in : List ℕ
  key_in = take M.key_len rest

  pub pad_in : ℕ
  pad_in = word (take 8 (drop M.key_len rest))

  opening_by : Bool → List ℕ → List ℕ → Answer (View M)
  opening_by b k pad = cond b (judged (standing M k (word pad) []) (M.refusal k)) (Err 1)

  scheme_is : M.key_len + 8 ≤ length rest → (s : Sent) → sent [] (lines_of (drop (M.key_len + 8) rest)) 1 ≡ s
      → unless_refused_key (M.refusal key_in) (seal_of_lines (scheme_of M) key_in pad_in s) ≡ seal_by_scheme (scheme_of M) rest
  unfolding key_in pad_in
  scheme_is long s comes =
      sym (
      ap (λ (b : Bool). cond b (unless_refused_key (M.refusal key_in) (seal_of_lines (scheme_of M) key_in pad_in (sent [] (lines_of (drop (M.key_len + 8) rest)) 1))) (no_seal 1))
      (le-leb (M.key_len + 8) (length rest) long)
      ∙ ap (λ (x : Sent). unless_refused_key (M.refusal key_in) (seal_of_lines (scheme_of M) key_in pad_in x)) comes
      )

-- a buffer and a text are what rest is cut into
pub record Cut (M : Meaning) (rest buffer text : List ℕ) : Type 0 where
  pub long : M.key_len + 8 ≤ length rest
  pub front : buffer ≡ take (M.key_len + 8) rest
  pub back : text ≡ drop (M.key_len + 8) rest

-- what a refusal, or none, was
judged_ok : {V : Type 0} (v w : V) (o : Option ℕ) → Ok v ≡ judged w o → (v ≡ w) × (o ≡ None)
judged_ok v w None e = (cc, refl)
judged_ok v w (Some n) e = absurd cc

judged_err : {V : Type 0} (w : V) (o : Option ℕ) (n : ℕ) → judged w o ≡ Err n → o ≡ Some n
judged_err w None n e = absurd cc
judged_err w (Some m) n e = cc

module _ {M : Meaning} {rest buffer text : List ℕ} (cut : Cut M rest buffer text) where
  opening_is : opening M buffer ≡ judged (standing M (key_in M rest) (pad_in M rest) []) (M.refusal (key_in M rest))
  unfolding key_in pad_in opening_by
  opening_is =
      ap (opening M) cut.front
      ∙ ap (λ (n : ℕ). opening_by M rest (eqb n (M.key_len + 8)) (take M.key_len (take (M.key_len + 8) rest)) (drop M.key_len (take (M.key_len + 8) rest))) sized
      ∙ ap (λ (b : Bool). opening_by M rest b (take M.key_len (take (M.key_len + 8) rest)) (drop M.key_len (take (M.key_len + 8) rest))) (eq-eqb (M.key_len + 8) (M.key_len + 8) refl)
      ∙ ap₂ (opening_by M rest true) (take-take M.key_len (M.key_len + 8) rest (omega arith)) (drop-take M.key_len 8 rest)
    where
      sized : length (take (M.key_len + 8) rest) ≡ M.key_len + 8
      sized = omega (arith, length-take (M.key_len + 8) rest, cut.long)

  lines_come : (v : View M) → Ok v ≡ opening M buffer → (s : Sent) → sent [] (lines_of text) 1 ≡ s
      → seal_of_lines (scheme_of M) (key_in M rest) (pad_in M rest) s ≡ seal_by_scheme (scheme_of M) rest
  lines_come v o s comes =
      ap (λ (f : Option ℕ). unless_refused_key f (seal_of_lines (scheme_of M) (key_in M rest) (pad_in M rest) s))
      (sym (judged_ok v _ (M.refusal (key_in M rest)) (o ∙ opening_is)).1)
      ∙ scheme_is M rest cut.long s (ap (λ (x : List ℕ). sent [] (lines_of x) 1) (sym cut.back) ∙ comes)

  -- the text is refused
  pub text_refused : (n : ℕ) (place : ℕ × ℕ) → RefusedText M buffer text n place → Err (n, place)
      ≡ seal_by_scheme (scheme_of M) rest
  text_refused n _ (by_buffer e) =
      ap (λ (f : Option ℕ).
      unless_refused_key f
      (seal_of_lines (scheme_of M) (key_in M rest) (pad_in M rest)
      (sent [] (lines_of text) 1)))
      (sym (judged_err _ (M.refusal (key_in M rest)) n (sym opening_is ∙ e)))
      ∙ scheme_is M rest cut.long (sent [] (lines_of text) 1)
      (ap (λ (x : List ℕ). sent [] (lines_of x) 1) (sym cut.back))
  text_refused n place (by_line o s) = lines_come _ o (stopped n place.0 place.1) s

  -- its records are sealed
  pub text_sealed : (v : View M) → Ok v ≡ opening M buffer → (rs : List Record)
      → sent [] (lines_of text) 1 ≡ all_taken rs
      → Ok (length (message rs) + 12, sealed M (key_of M buffer) (pad_of M buffer) rs)
      ≡ seal_by_scheme (scheme_of M) rest
  unfolding key_in pad_in
  text_sealed v o rs s =
      ap₂ (λ (k p : List ℕ).
      Ok (length (message rs) + 12, bit_xor (hash M k (message rs)) (word p)))
      (ap (take M.key_len) cut.front ∙ take-take M.key_len (M.key_len + 8) rest (omega arith))
      (ap (drop M.key_len) cut.front ∙ drop-take M.key_len 8 rest)
      ∙ lines_come v o (all_taken rs) s

-- ---- by the formula

-- two schemes with the same keys, and the same hashes of byte strings
module _ {M : Meaning} (facts : RegisterFacts M) (n : ℕ) (refusal : List ℕ → Option ℕ)
    (f g : List ℕ → List ℕ → ℕ)
    (same : (k m : List ℕ) → Bytes k → length k ≡ n → Bytes m → f k m ≡ g k m) (rest : List ℕ) (bytes : Bytes rest) where
  abbrev by : (List ℕ → List ℕ → ℕ) → Scheme
  by h = record { key_len = n; refusal = refusal; formula = h }

  lines_agree : (pad : ℕ) (lines : List (List ℕ)) → length (take n rest) ≡ n → (s : Sent) → sent [] lines 1 ≡ s
      → seal_of_lines (by f) (take n rest) pad s ≡ seal_of_lines (by g) (take n rest) pad s
  lines_agree pad lines l (all_taken rs) e =
      ap (λ (h : ℕ). Ok (length (message rs) + 12, bit_xor h pad))
      (same (take n rest) (message rs) (All-take (λ (b : ℕ). b < 256) n rest bytes) l
      (facts.book_bytes rs (sent_book facts lines 1 rs e)))
  lines_agree pad lines l (stopped number line column) e = refl

  by_length : (b : Bool) → leb (n + 8) (length rest) ≡ b → (s t : InputAnswer) → (length (take n rest) ≡ n → s ≡ t)
      → cond b s (no_seal 1) ≡ cond b t (no_seal 1)
  by_length true e s t h = h (omega (arith, length-take n rest, leb-true (n + 8) (length rest) e))
  by_length false e s t h = refl

  pub schemes_agree : seal_by_scheme (by f) rest ≡ seal_by_scheme (by g) rest
  schemes_agree =
      by_length (leb (n + 8) (length rest)) refl _ _
      (λ l. ap (unless_refused_key (refusal (take n rest))) (lines_agree _ (lines_of (drop (n + 8) rest)) l _ refl))

-- the three families, by their formulas
pub division_agrees : {M : Meaning} → RegisterFacts M → (rest : List ℕ) → Bytes rest
    → seal_by_scheme (scheme_of division_family) rest ≡ seal_by_scheme division_scheme rest
division_agrees facts rest bytes =
    schemes_agree facts 8 division_family.refusal _ _
    (λ k m bk l bm. division_facts.formula k m bk l bm) rest bytes

pub toeplitz_agrees : {M : Meaning} → RegisterFacts M → (rest : List ℕ) → Bytes rest
    → seal_by_scheme (scheme_of toeplitz_family) rest ≡ seal_by_scheme toeplitz_scheme rest
toeplitz_agrees facts rest bytes =
    schemes_agree facts 16 toeplitz_family.refusal _ _
    (λ k m bk l bm. toeplitz_facts.formula k m) rest bytes

pub evaluation_agrees : {M : Meaning} → RegisterFacts M → (rest : List ℕ) → Bytes rest
    → seal_by_scheme (scheme_of evaluation_family) rest ≡ seal_by_scheme evaluation_scheme rest
evaluation_agrees facts rest bytes =
    schemes_agree facts 8 evaluation_family.refusal _ _
    (λ k m bk l bm. evaluation_facts.formula k m bm) rest bytes

-- ---- the parts of an input

family_picks : (family : FamilyCode) (code : ℕ) → code_of_family family ≡ code → scheme_by code ≡ Some (scheme_of_family family)
family_picks Division code e = ap scheme_by (sym e)
family_picks Toeplitz code e = ap scheme_by (sym e)
family_picks Evaluation code e = ap scheme_by (sym e)

-- an input that is not too long
pub seal_within : (input : List ℕ) → length input ≤ longest_input → (o : Option ℕ) → o
    ≡ code_of input → seal_of_parts o (drop 1 input) ≡ input_answer input
seal_within input short o e =
    ap (λ (c : Option ℕ). seal_of_parts c (drop 1 input)) e
    ∙ ap (λ (b : Bool). cond b (seal_of_parts (code_of input) (drop 1 input)) (no_seal 5)) (sym (le-leb (length input) longest_input short))

picks_own : (k code : ℕ) (b : Bool) → ◌≡◌ {A = Answer ℕ} (Ok k) (cond b (Ok code) (Err 4)) → k ≡ code
picks_own k code true e = cc
picks_own k code false e = let z : ◌≡◌ {A = ℕ} 0 1 = cc in absurd (omega arith)

-- whose code picks a family
pub seal_by_code : (input : List ℕ) (code : ℕ) (family : FamilyCode) (answer : InputAnswer) → length input ≤ longest_input → Bytes input → Some code ≡ code_of input → family_answer (Ok family) ≡ picked code
    → (Bytes (rest_of input) → answer ≡ seal_by_scheme (scheme_of_family family) (rest_of input)) → answer ≡ input_answer input
seal_by_code input code family answer short bytes first picks h =
    let rest : rest_of input ≡ drop 1 input = between_to_end input 1 (length input) (omega arith) in
    h (subst Bytes (sym rest) (All-drop (λ (b : ℕ). b < 256) 1 input bytes))
    ∙ ap (seal_by_scheme (scheme_of_family family)) rest
    ∙ ap (λ (o : Option Scheme). seal_by o (drop 1 input)) (sym (family_picks family code (picks_own _ code _ picks)))
    ∙ seal_within input short (Some code) first
