-- Where an escape is open in a line that takes no further byte, the fault is that of an escape.
use Rattle.std.proofs.Common.{◌≡◌, ℕ, true, false, eqb, List, [], ◌∷◌, ◌++◌, length, Ok, Err, codes, Result, sym, refl, ap, ◌∙◌, append_assoc, arith}
use Rattle.std.proofs.lemmas.Bool.{cond_both}
use Rattle.line_reader.specs.declared.fault.ReadFault.{ReadFault}
use Rattle.line_reader.specs.declared.fault.ReadFault.TheVariants.{Escape}
use Rattle.line_reader.specs.Grammar.{unescaped, Name, none, itself, escape, Sentence, zone_line, OpensEscape, opens}
use Rattle.line_reader.specs.Reading.{characters, read_form}
use Rattle.line_reader.proofs.Steady.{reads_at}
use Rattle.line_reader.proofs.Leaves.{number_whole}
use Rattle.line_reader.proofs.Names.{lettered, name_then}
use Rattle.line_reader.proofs.Forms.{form_reads, form_whole}

name_push : {w v : List ℕ} (e d : ℕ) → unescaped e ≡ Ok d → Name w v → Name (w ++ (92 ∷ (e ∷ []))) (v ++ (d ∷ []))
name_push e d q none = escape q none
name_push e d q (itself p n) = itself p (name_push e d q n)
name_push e d q (escape r n) = escape r (name_push e d q n)

unescaped_fault : (e : ℕ) (f : ReadFault) → unescaped e ≡ Err f → f ≡ Escape
unescaped_fault e f =
    cond_both (eqb e 34) _ _ (λ x. x ≡ Err f → f ≡ Escape) (λ _ q. never q) (λ _.
    cond_both (eqb e 92) _ _ (λ x. x ≡ Err f → f ≡ Escape) (λ _ q. never q) (λ _.
    cond_both (eqb e 110) _ _ (λ x. x ≡ Err f → f ≡ Escape) (λ _ q. never q) (λ _ q. cc)))
  where
    never : {d : ℕ} → ◌≡◌ {A = Result ℕ ReadFault} (Ok d) (Err f) → f ≡ Escape
    never q = absurd (let z : ◌≡◌ {A = ℕ} 0 1 = cc in omega arith)

pub open_fault : {x : List ℕ} → OpensEscape x → (t : List ℕ) (r : Result Sentence ReadFault) → read_form (x ++ t) ≡ (t, r) → r ≡ Err Escape
open_fault (opens {n = n} {u = u} {w = w} hn hw) = cases
  where
    start : List ℕ
    start = codes "zone " ++ (u ++ (codes " \"" ++ (w ++ codes "\\")))

    -- the name breaks off
    breaks : (t : List ℕ) → (characters true t).1 ≡ (t, Err Escape) → read_form (start ++ t) ≡ (t, Err Escape)
    breaks t q =
        let c : (characters false (w ++ (92 ∷ t))).1 ≡ (t, Err Escape) = ap (λ s. s.1) (name_then hw (92 ∷ t)) ∙ q in
        let shape : start ++ t ≡ codes "zone " ++ (u ++ (codes " \"" ++ (w ++ (92 ∷ t)))) = simp append_assoc in
        ap read_form shape ∙ rw (number_whole u (codes " \"" ++ (w ++ (92 ∷ t))) hn refl, c)

    letter : (e : ℕ) (t : List ℕ) (r : Result Sentence ReadFault) (d : Result ℕ ReadFault) → unescaped e ≡ d → read_form (start ++ (e ∷ t)) ≡ (e ∷ t, r) → r ≡ Err Escape
    letter e t r (Err f) q h = ap (λ z. z.1) (sym h ∙ breaks (e ∷ t) (ap (λ x. (lettered e t x).1) (q ∙ ap Err (unescaped_fault e f q))))
    letter e t r (Ok d) q h =
        let k = reads_at (form_reads (start ++ (e ∷ t))) start (e ∷ t) r refl h (e ∷ codes "\"") refl in
        let shape : start ++ (e ∷ codes "\"") ≡ codes "zone " ++ (u ++ (codes " \"" ++ ((w ++ (92 ∷ (e ∷ []))) ++ codes "\""))) = simp append_assoc in
        absurd (omega (arith, ap (λ z. length z.0) (sym k ∙ (ap read_form shape ∙ form_whole (zone_line hn (name_push e d q hw))))))

    cases : (t : List ℕ) (r : Result Sentence ReadFault) → read_form (start ++ t) ≡ (t, r) → r ≡ Err Escape
    cases [] r h = ap (λ z. z.1) (sym h ∙ breaks [] refl)
    cases (e ∷ t) r h = letter e t r (unescaped e) refl h
