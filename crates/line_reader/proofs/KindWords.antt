-- Reading the word of a kind.
use Rattle.std.proofs.Common.{◌≡◌, ℕ, true, false, cond, eqb, ◌⊎◌, List, [], ◌∷◌, ◌++◌, Ok, Err, codes, sym, refl, ap, ◌∙◌, subst, inl, inr, append-nil}
use Rattle.std.proofs.lemmas.Bool.{cases_Bool, eqb-true}
use Rattle.line_reader.specs.declared.fault.ReadFault.TheVariants.{Syntax}
use Rattle.line_reader.specs.declared.kind.Kind.{Kind}
use Rattle.line_reader.specs.declared.kind.Kind.TheVariants.{Smoke, Heat, Call, Sounder}
use Rattle.line_reader.specs.Grammar.{spelling}
use Rattle.line_reader.specs.Reading.{and_then, first, read_word, read_kind}
use Rattle.line_reader.proofs.Steady.{Alike, alike_first, Reads, stay, stay_at, stay_end, pass, via, then_reads}
use Rattle.line_reader.proofs.Leaves.{Never, no_fault, word_reads}

abbrev pub KindWord : List ℕ → Kind → Type 0
KindWord w k = w ≡ spelling k

-- the rest s of the word of k, after its front p
rest_reads : (k : Kind) (p s : List ℕ) → p ++ s ≡ spelling k → (text : List ℕ) → Reads (λ t. and_then (read_word s t) (λ _ t. (t, Ok k))) (λ w. KindWord (p ++ w)) Never text
rest_reads k p s e text =
    then_reads (read_word s) (λ _ t. (t, Ok k)) (λ w o. o) (word_reads s text) (λ x _ h t. stay t (Ok k) (λ _. refl) (ap (λ y. p ++ y) (append-nil x ∙ h) ∙ e))

-- after an s
second_reads : (text : List ℕ) → Reads (λ t. read_kind (115 ∷ t)) (λ w. KindWord (115 ∷ w)) Never text
second_reads [] = stay_end (Err Syntax) refl ((codes "moke", Smoke, refl), no_fault)
second_reads (c ∷ t) = decide (cases_Bool (eqb c 111))
  where
    smoke : eqb c 111 ≡ false → (s : List ℕ) → Alike (c ∷ t) s → read_kind (115 ∷ s) ≡ and_then (read_word (codes "moke") s) (λ _ t. (t, Ok Smoke))
    smoke e s h = let f : eqb (first s) 111 ≡ false = rw (alike_first (c ∷ t) s h) at e in rw f

    decide : ((eqb c 111 ≡ true) ⊎ (eqb c 111 ≡ false)) → Reads (λ t. read_kind (115 ∷ t)) (λ w. KindWord (115 ∷ w)) Never (c ∷ t)
    decide (inl e) =
        subst (λ x. Reads (λ t. read_kind (115 ∷ t)) (λ w. KindWord (115 ∷ w)) Never (x ∷ t)) (sym (eqb-true c 111 e))
        (pass 111 (λ s. refl) (rest_reads Sounder (codes "so") (codes "under") refl t))
    decide (inr e) = via (rest_reads Smoke (codes "s") (codes "moke") refl (c ∷ t)) (smoke e)

pub kind_reads : (text : List ℕ) → Reads read_kind KindWord Never text
kind_reads [] = stay_end (Err Syntax) refl ((codes "smoke", Smoke, refl), no_fault)
kind_reads (b ∷ t) = decide (cases_Bool (eqb b 104)) (cases_Bool (eqb b 99)) (cases_Bool (eqb b 115))
  where
    at : (c : ℕ) → eqb b c ≡ true → Reads read_kind KindWord Never (c ∷ t) → Reads read_kind KindWord Never (b ∷ t)
    at c e h = subst (λ x. Reads read_kind KindWord Never (x ∷ t)) (sym (eqb-true b c e)) h

    none : eqb b 104 ≡ false → eqb b 99 ≡ false → eqb b 115 ≡ false → (s : List ℕ) → read_kind (b ∷ s) ≡ (b ∷ s, Err Syntax)
    none h c o s = rw (h, c, o)

    decide : ((eqb b 104 ≡ true) ⊎ (eqb b 104 ≡ false)) → ((eqb b 99 ≡ true) ⊎ (eqb b 99 ≡ false)) → ((eqb b 115 ≡ true) ⊎ (eqb b 115 ≡ false)) → Reads read_kind KindWord Never (b ∷ t)
    decide (inl e) _ _ = at 104 e (pass 104 (λ s. refl) (rest_reads Heat (codes "h") (codes "eat") refl t))
    decide (inr _) (inl e) _ = at 99 e (pass 99 (λ s. refl) (rest_reads Call (codes "c") (codes "all") refl t))
    decide (inr _) (inr _) (inl e) = at 115 e (pass 115 (λ s. refl) (second_reads t))
    decide (inr h) (inr c) (inr o) = stay_at b t (Err Syntax) (none h c o) ((codes "smoke", Smoke, refl), no_fault)

pub kind_whole : (k : Kind) → read_kind (spelling k) ≡ ([], Ok k)
kind_whole Smoke = refl
kind_whole Heat = refl
kind_whole Call = refl
kind_whole Sounder = refl
