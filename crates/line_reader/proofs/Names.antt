-- Reading a name, and the bytes that it stands for.
use Rattle.std.proofs.Common.{◌≡◌, ℕ, ◌-◌, ◌≤◌, Bool, true, false, not, ◌&&◌, eqb, leb, ◌⊎◌, List, [], ◌∷◌, ◌++◌, length, take, Some, None, Ok, Err, Option, Result, sym, refl, ap, ◌∙◌, subst, inl, inr, append-nil, arith, length-append}
use Rattle.std.proofs.lemmas.List.{take_at}
use Rattle.std.proofs.lemmas.Bool.{cases_Bool, eqb-true, and_parts, not-true}
use Rattle.line_reader.specs.declared.fault.ReadFault.{ReadFault}
use Rattle.line_reader.specs.declared.fault.ReadFault.TheVariants.{Escape}
use Rattle.line_reader.specs.Grammar.{plain, unescaped, Name, none, itself, escape}
use Rattle.line_reader.specs.Reading.{Stage, and_then, characters, read_character, read_name, decoded}
use Rattle.line_reader.proofs.Steady.{Reads, reads, reads_less, stay_at, stay_end, pass, weaken}

-- a name
abbrev pub Named : List ℕ → Unit {0} → Type 0
Named w _ = (v : List ℕ) × Name w v

-- a name and a backslash
abbrev pub Half : List ℕ → Type 0
Half w = (x v : List ℕ) × Name x v × (w ≡ x ++ (92 ∷ []))

-- the same after a backslash, where the test says so
abbrev NamedFrom : Bool → List ℕ → Unit {0} → Type 0
NamedFrom false = Named
NamedFrom true = λ w. Named (92 ∷ w)

abbrev HalfFrom : Bool → List ℕ → Type 0
HalfFrom false = Half
HalfFrom true = λ w. Half (92 ∷ w)

plain_not : (b : ℕ) → plain b ≡ true → eqb b 92 ≡ false
plain_not b h = not-true (eqb b 92) (and_parts (not (eqb b 34)) (not (eqb b 92)) (and_parts (leb 32 b && leb b 126) (not (eqb b 34) && not (eqb b 92)) h).1).1

characters_read : (s : Bool) (text : List ℕ) → Reads (λ t. (characters s t).1) (NamedFrom s) (HalfFrom s) text
characters_read false [] = stay_end (Ok tt) refl ([], none)
characters_read true [] = stay_end (Err Escape) refl ((34 ∷ [], tt, (34 ∷ [], escape refl none)), λ _. ([], [], none, refl))
characters_read false (b ∷ t) = decide (cases_Bool (eqb b 92)) (cases_Bool (plain b)) (characters_read true t) (characters_read false t)
  where
    decide : ((eqb b 92 ≡ true) ⊎ (eqb b 92 ≡ false)) → ((plain b ≡ true) ⊎ (plain b ≡ false)) → Reads (λ t. (characters true t).1) (NamedFrom true) (HalfFrom true) t → Reads (λ t. (characters false t).1) Named Half t → Reads (λ t. (characters false t).1) Named Half (b ∷ t)
    decide (inl e) _ h _ = subst (λ x. Reads (λ t. (characters false t).1) Named Half (x ∷ t)) (sym (eqb-true b 92 e)) (pass 92 (λ s. refl) h)
    decide (inr e) (inl p) _ h =
        pass b (λ s. rw (p, e)) (weaken (λ w _ (v, n). (b ∷ v, itself p n)) (λ w (x, v, n, q). (b ∷ x, b ∷ v, itself p n, ap (λ l. b ∷ l) q)) h)
    decide (inr e) (inr p) _ _ = stay_at b t (Ok tt) (λ s. rw (p, e)) ([], none)
characters_read true (e ∷ t) = decide (unescaped e) refl (characters_read false t)
  where
    decide : (r : Result ℕ ReadFault) → unescaped e ≡ r → Reads (λ t. (characters false t).1) Named Half t → Reads (λ t. (characters true t).1) (NamedFrom true) (HalfFrom true) (e ∷ t)
    decide (Ok d) q h =
        pass e (λ s. rw (q, characters)) (weaken (λ w _ (v, n). (d ∷ v, escape q n)) (λ w (x, v, n, k). (92 ∷ (e ∷ x), d ∷ v, escape q n, ap (λ l. 92 ∷ (e ∷ l)) k)) h)
    decide (Err f) q h = stay_at e t (Err f) (λ s. rw (q, characters)) ((34 ∷ [], tt, (34 ∷ [], escape refl none)), λ _. ([], [], none, refl))

-- a name, with the text itself as its value
abbrev pub Written : List ℕ → List ℕ → Type 0
Written w x = (w ≡ x) × ((v : List ℕ) × Name w v)

pub before : (x t : List ℕ) → take (length (x ++ t) - length t) (x ++ t) ≡ x
before x t = take_at x t (length (x ++ t) - length t) (omega (arith, length-append x t))

pub name_reads : (text : List ℕ) → Reads read_name Written Half text
name_reads text = go (characters_read false text)
  where
    go : {text : List ℕ} → Reads (λ t. (characters false t).1) Named Half text → Reads read_name Written Half text
    go (reads over rest (Ok _) steady sound) =
        reads over rest (Ok over) (λ t h. rw (steady t h) (ap (λ x. (t, Ok x)) (before over t))) (refl, sound)
    go (reads over rest (Err f) steady ((v, _, n), o)) = reads over rest (Err f) (λ t h. rw (steady t h)) ((v, over ++ v, (refl, n)), o)

-- what follows a backslash, by what its letter gives
abbrev pub lettered : ℕ → List ℕ → Result ℕ ReadFault → List ℕ × Stage (Unit {0})
lettered e t (Ok d) = (d ∷ (characters false t).0, (characters false t).1)
lettered e t (Err f) = ([], (e ∷ t, Err f))

-- a name and what follows it
pub name_then : {w v : List ℕ} → Name w v → (t : List ℕ) → characters false (w ++ t) ≡ (v ++ (characters false t).0, (characters false t).1)
name_then none t = refl
name_then (itself {b = b} p n) t = rw (p, plain_not b p) (ap (λ s. (b ∷ s.0, s.1)) (name_then n t))
name_then (escape {e = e} {d = d} {w = w} q n) t = ap (lettered e (w ++ t)) q ∙ ap (λ s. (d ∷ s.0, s.1)) (name_then n t)

pub name_decoded : (w v : List ℕ) → Name w v → decoded w ≡ v
name_decoded w v n = ap (λ x. decoded x) (sym (append-nil w)) ∙ (ap (λ s. s.0) (name_then n []) ∙ append-nil v)

-- a name before a quote
pub name_whole : {w v : List ℕ} → Name w v → (t : List ℕ) → read_name (w ++ (34 ∷ t)) ≡ (34 ∷ t, Ok w)
name_whole {w} n t = rw (name_then n (34 ∷ t)) (ap (λ x. (34 ∷ t, Ok x)) (before w (34 ∷ t)))

-- ---- one character after another

-- what follows one character
abbrev pub carry : Stage (Option ℕ) → List ℕ × Stage (Unit {0})
carry (t, Ok (Some d)) = (d ∷ (characters false t).0, (characters false t).1)
carry (t, Ok None) = ([], (t, Ok tt))
carry (t, Err f) = ([], (t, Err f))

character_then : (text : List ℕ) → characters false text ≡ carry (read_character text)
character_then [] = refl
character_then (b ∷ t) = decide (cases_Bool (eqb b 92)) (cases_Bool (plain b)) t
  where
    same : (e : ℕ) (t : List ℕ) (r : Result ℕ ReadFault) → lettered e t r ≡ carry (and_then (elim r [ Ok d ↦ (t, Ok d) | Err f ↦ (e ∷ t, Err f) ]) (λ d t. (t, Ok (Some d))))
    same e t (Ok d) = refl
    same e t (Err f) = refl

    escaped : (t : List ℕ) → characters false (92 ∷ t) ≡ carry (read_character (92 ∷ t))
    escaped [] = refl
    escaped (e ∷ t) = same e t (unescaped e)

    decide : ((eqb b 92 ≡ true) ⊎ (eqb b 92 ≡ false)) → ((plain b ≡ true) ⊎ (plain b ≡ false)) → (t : List ℕ) → characters false (b ∷ t) ≡ carry (read_character (b ∷ t))
    decide (inl e) _ t = subst (λ x. characters false (x ∷ t) ≡ carry (read_character (x ∷ t))) (sym (eqb-true b 92 e)) (escaped t)
    decide (inr e) (inl p) t = rw (p, e)
    decide (inr e) (inr p) t = rw (p, e)

pub characters_by : (text : List ℕ) (s : Stage (Option ℕ)) → read_character text ≡ s → characters false text ≡ carry s
characters_by text s e = character_then text ∙ ap carry e

pub decoded_by : (text : List ℕ) (s : Stage (Option ℕ)) → read_character text ≡ s → decoded text ≡ (carry s).0
decoded_by text s e = ap (λ x. x.0) (characters_by text s e)

-- what is left is no longer
pub characters_less : (text rest : List ℕ) (r : Result (Unit {0}) ReadFault) → (characters false text).1 ≡ (rest, r) → length rest ≤ length text
characters_less text rest r e = omega (arith, ap (λ s. length s.0) e, reads_less (characters_read false text))
