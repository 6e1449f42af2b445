-- The reading of a line is the one answer that the grammar allows.
use Rattle.std.proofs.Common.{◌≡◌, ℕ, zero, suc, ◌-◌, ◌<◌, ◌≤◌, ◌⊎◌, List, [], ◌∷◌, ◌++◌, length, take, Ok, Err, Result, sym, refl, ap, ap₂, ◌∙◌, subst, inl, inr, append_assoc, append-nil, arith, length-append}
use Rattle.std.proofs.lemmas.Bool.{cases_lt}
use Rattle.line_reader.specs.declared.fault.ReadFault.{ReadFault}
use Rattle.line_reader.specs.declared.fault.ReadFault.TheVariants.{Syntax, Escape}
use Rattle.line_reader.specs.Numbers.{number_of_read_fault}
use Rattle.line_reader.specs.Grammar.{Sentence, Spells, Begins, Column, OpensEscape, Faults, Faulty}
use Rattle.line_reader.specs.Reading.{Stage, and_then, read_form, read_end, read_whole, reading}
use Rattle.line_reader.specs.Exact.{ReadingsExact}
use Rattle.line_reader.proofs.Steady.{Alike, alike_refl, Reads, reads, reads_less}
use Rattle.line_reader.proofs.Names.{before}
use Rattle.line_reader.proofs.Forms.{form_reads, form_whole}
use Rattle.line_reader.proofs.Escapes.{open_fault}

-- what the grammar says of an answer
abbrev pub Judged : List ℕ → Result Sentence (ℕ × ℕ) → Type 0
Judged line (Ok s) = Spells line s
Judged line (Err p) = (f : ReadFault) × (p.0 ≡ number_of_read_fault f) × Faulty line f p.1

-- a longer part from the start begins with x and the next byte
begins_with : (x t : List ℕ) (k : ℕ) → length x < k → k ≤ length (x ++ t) → (b : ℕ) × (y : List ℕ) × ((s : List ℕ) → Alike t (b ∷ s)) × (take k (x ++ t) ≡ x ++ (b ∷ y))
begins_with [] [] k less within = absurd (omega arith)
begins_with [] (b ∷ t) zero less within = absurd (omega arith)
begins_with [] (b ∷ t) (suc k) less within = (b, take k t, λ s. refl, refl)
begins_with (a ∷ x) t zero less within = absurd (omega arith)
begins_with (a ∷ x) t (suc k) less within =
    let (b, y, h, e) = begins_with x t k (omega arith) (omega arith) in
    (b, y, h, ap (λ l. a ∷ l) e)

module _ (over rest : List ℕ) (r : Result Sentence ReadFault) (steady : (t : List ℕ) → Alike rest t → read_form (over ++ t) ≡ (t, r)) where
  column : Begins Spells over → Column (over ++ rest) (length (over ++ rest) - length rest)
  column begins =
      record {
        within = omega arith;
        begins = subst (Begins Spells) (sym (before over rest)) begins;
        longest = λ k within h. decide k within h (cases_lt (length over) k);
      }
    where
      decide : (k : ℕ) → k ≤ length (over ++ rest) → Begins Spells (take k (over ++ rest)) → ((length over < k) ⊎ (k ≤ length over)) → k ≤ length (over ++ rest) - length rest
      decide k within h (inr le) = omega (arith, length-append over rest)
      decide k within (v, s, h) (inl less) =
          let (b, y, like, e) = begins_with over rest k less within in
          let whole = form_whole (subst (λ x. Spells x s) (ap (λ x. x ++ v) e ∙ append_assoc over (b ∷ y) v) h) in
          absurd (omega (arith, ap (λ x. length x.0) (sym (steady (b ∷ (y ++ v)) (like (y ++ v))) ∙ whole)))

  -- the reader stops after over, and not at the end of a line of the grammar
  faulty : (f : ReadFault) → Begins Spells over → ((s : Sentence) → rest ≡ [] → r ≡ Ok s → ⊥) → Faults over f → Faulty (over ++ rest) f (length (over ++ rest) - length rest)
  faulty f begins none h =
      record {
        unspelled = λ s k. let e = sym (steady rest (alike_refl rest)) ∙ form_whole k in none s (ap (λ x. x.0) e) (ap (λ x. x.1) e);
        column = column begins;
        fault = subst (λ w. Faults w f) (sym (before over rest)) h;
      }

  opened : OpensEscape over → r ≡ Err Escape
  opened o = open_fault o rest r (steady rest (alike_refl rest))

judged_by : {line : List ℕ} → Reads read_form Spells OpensEscape line → Judged line (reading line)
judged_by (reads over [] (Ok s) steady h) =
    let e : reading (over ++ []) ≡ Ok s = rw (steady [] tt) in
    subst (Judged (over ++ [])) (sym e) (rw append-nil h)
judged_by (reads over (b ∷ t) (Ok s) steady h) =
    let e : reading (over ++ (b ∷ t)) ≡ Err (11, length (over ++ (b ∷ t)) - length (b ∷ t)) = rw (steady (b ∷ t) refl) in
    subst (Judged (over ++ (b ∷ t))) (sym e)
    (Syntax, refl, faulty over (b ∷ t) (Ok s) steady Syntax ([], s, rw append-nil h) (λ _ q _. omega (arith, ap length q)) (λ o. let q = opened over (b ∷ t) (Ok s) steady o in absurd (let z : ◌≡◌ {A = ℕ} 0 1 = cc in omega arith)))
judged_by (reads over rest (Err f) steady (begins, o)) =
    let e : reading (over ++ rest) ≡ Err (number_of_read_fault f, length (over ++ rest) - length rest) = rw (steady rest (alike_refl rest)) in
    subst (Judged (over ++ rest)) (sym e) (f, refl, faulty over rest (Err f) steady f begins (λ s _ q. absurd (let z : ◌≡◌ {A = ℕ} 0 1 = cc in omega arith)) (faults f steady o))
  where
    faults : (f : ReadFault) → ((t : List ℕ) → Alike rest t → read_form (over ++ t) ≡ (t, Err f)) → (f ≡ Escape → OpensEscape over) → Faults over f
    faults Escape steady o = o refl
    faults Syntax steady o = λ p. let q = opened over rest (Err Syntax) steady p in absurd (let z : ◌≡◌ {A = ℕ} 0 1 = cc in omega arith)

pub reading_judged : (line : List ℕ) → Judged line (reading line)
reading_judged line = judged_by (form_reads line)

reads_whole : {line : List ℕ} {s : Sentence} → Spells line s → reading line ≡ Ok s
reads_whole h = let e = form_whole h in rw e

fault_one : (w : List ℕ) (f g : ReadFault) → Faults w f → Faults w g → f ≡ g
fault_one w Syntax Syntax p q = refl
fault_one w Syntax Escape p q = absurd (p q)
fault_one w Escape Syntax p q = absurd (q p)
fault_one w Escape Escape p q = refl

faulty_one : (line : List ℕ) (f g : ReadFault) (c d : ℕ) → Faulty line f c → Faulty line g d → (f ≡ g) × (c ≡ d)
faulty_one line f g c d p q =
    let e : c ≡ d = omega (arith, p.column.longest d q.column.within q.column.begins, q.column.longest c p.column.within p.column.begins) in
    (fault_one (take d line) f g (subst (λ n. Faults (take n line) f) e p.fault) q.fault, e)

-- the fault with a number
fault_by : (f g : ReadFault) → number_of_read_fault f ≡ number_of_read_fault g → f ≡ g
fault_by Syntax Syntax e = refl
fault_by Syntax Escape e = absurd (omega arith)
fault_by Escape Syntax e = absurd (omega arith)
fault_by Escape Escape e = refl

pub readings_exact : ReadingsExact
readings_exact =
    record {
      sentence = λ line s. (λ e. subst (Judged line) e (reading_judged line), λ h. reads_whole h);
      fault = λ line f c. (λ e. numbered line f c (subst (Judged line) e (reading_judged line)), λ h. refuse line f c h (reading line) refl);
      one_sentence = λ line s t h k. let p = reads_whole h in let q = reads_whole k in cc;
      one_fault = faulty_one;
      one_of_both = λ line. either line (reading line) (reading_judged line);
      not_both = λ line s f c h k. k.unspelled s h;
    }
  where
    numbered : (line : List ℕ) (f : ReadFault) (c : ℕ) → Judged line (Err (number_of_read_fault f, c)) → Faulty line f c
    numbered line f c (g, e, h) = subst (λ x. Faulty line x c) (fault_by g f (sym e)) h

    refuse : (line : List ℕ) (f : ReadFault) (c : ℕ) → Faulty line f c → (r : Result Sentence (ℕ × ℕ)) → reading line ≡ r → reading line ≡ Err (number_of_read_fault f, c)
    refuse line f c h (Ok s) e = absurd (h.unspelled s (subst (Judged line) e (reading_judged line)))
    refuse line f c h (Err (n, d)) e =
        let j = subst (Judged line) e (reading_judged line) in
        let q = faulty_one line j.0 f d c j.2 h in
        e ∙ ap₂ (λ (m k : ℕ). Err (m, k)) (j.1 ∙ ap number_of_read_fault q.0) q.1

    either : (line : List ℕ) (r : Result Sentence (ℕ × ℕ)) → Judged line r → ((s : Sentence) × Spells line s) ⊎ ((f : ReadFault) × (c : ℕ) × Faulty line f c)
    either line (Ok s) h = inl (s, h)
    either line (Err (n, c)) h = inr (h.0, c, h.2)

-- what is left of a line is no longer
pub whole_less : (line : List ℕ) → length (read_whole line).0 ≤ length line
whole_less line = rw (same (read_form line)) (reads_less (form_reads line))
  where
    same : (s : Stage Sentence) → (and_then s (λ s t. and_then (read_end t) (λ _ t. (t, Ok s)))).0 ≡ s.0
    same ([], Ok s) = refl
    same (b ∷ t, Ok s) = refl
    same (t, Err f) = refl
