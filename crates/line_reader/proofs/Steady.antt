-- How far a stage goes in a text, and that it looks no further than the next byte.
use Rattle.std.proofs.Common.{◌≡◌, ℕ, ◌≤◌, List, [], ◌∷◌, ◌++◌, length, Ok, Err, Result, sym, refl, ap, ◌∙◌, subst, append_assoc, arith, length-append}
use mathlib.Core.List.{append_cancel_right}
use Rattle.line_reader.specs.declared.fault.ReadFault.{ReadFault}
use Rattle.line_reader.specs.declared.fault.ReadFault.TheVariants.{Escape}
use Rattle.line_reader.specs.Grammar.{Begins}
use Rattle.line_reader.specs.Reading.{Stage, and_then, first}

-- two texts with the same first byte, or two empty ones
abbrev pub Alike : List ℕ → List ℕ → Type 0
Alike [] [] = Unit {0}
Alike [] (c ∷ t) = ⊥
Alike (b ∷ s) [] = ⊥
Alike (b ∷ s) (c ∷ t) = b ≡ c

pub alike_refl : (s : List ℕ) → Alike s s
alike_refl [] = tt
alike_refl (b ∷ s) = refl

pub alike_after : (x s t : List ℕ) → Alike s t → Alike (x ++ s) (x ++ t)
alike_after [] s t h = h
alike_after (b ∷ x) s t h = refl

pub alike_first : (s t : List ℕ) → Alike s t → first s ≡ first t
alike_first [] [] h = refl
alike_first [] (c ∷ t) h = absurd h
alike_first (b ∷ s) [] h = absurd h
alike_first (b ∷ s) (c ∷ t) h = h

-- what an answer says of the text that was gone over: it is a word of L with this value;
-- or it begins one, and the fault is that of an escape only where O holds
abbrev pub Sound : {A : Type 0} → (List ℕ → A → Type 0) → (List ℕ → Type 0) → List ℕ → Result A ReadFault → Type 0
Sound L O w (Ok a) = L w a
Sound L O w (Err f) = Begins L w × (f ≡ Escape → O w)

-- the stage p goes over the front of a text and answers soundly, whatever follows the next byte
pub data Reads {A : Type 0} (p : List ℕ → Stage A) (L : List ℕ → A → Type 0) (O : List ℕ → Type 0) : List ℕ → Type 0 where
  reads : (over rest : List ℕ) (r : Result A ReadFault) → ((t : List ℕ) → Alike rest t → p (over ++ t) ≡ (t, r)) → Sound L O over r → Reads p L O (over ++ rest)

module _ {A : Type 0} {p : List ℕ → Stage A} {L : List ℕ → A → Type 0} {O : List ℕ → Type 0} where
  -- nothing was gone over, at a byte, at the end, or anywhere
  pub stay_at : (b : ℕ) (t : List ℕ) (r : Result A ReadFault) → ((s : List ℕ) → p (b ∷ s) ≡ (b ∷ s, r)) → Sound L O [] r → Reads p L O (b ∷ t)
  stay_at b t r steady sound = reads [] (b ∷ t) r alike sound
    where
      alike : (s : List ℕ) → Alike (b ∷ t) s → p s ≡ (s, r)
      alike [] h = absurd h
      alike (c ∷ s) h = subst (λ x. p (x ∷ s) ≡ (x ∷ s, r)) h (steady s)

  pub stay_end : (r : Result A ReadFault) → p [] ≡ ([], r) → Sound L O [] r → Reads p L O []
  stay_end r steady sound = reads [] [] r alike sound
    where
      alike : (s : List ℕ) → Alike [] s → p s ≡ (s, r)
      alike [] h = steady
      alike (c ∷ s) h = absurd h

  pub stay : (text : List ℕ) (r : Result A ReadFault) → ((t : List ℕ) → p t ≡ (t, r)) → Sound L O [] r → Reads p L O text
  stay text r steady sound = reads [] text r (λ t h. steady t) sound

  pub reads_less : {text : List ℕ} → Reads p L O text → length (p text).0 ≤ length text
  reads_less (reads over rest r steady sound) = rw (steady rest (alike_refl rest)) (omega (arith, length-append over rest))

  -- where a stage is known to stop, it stops whatever follows the next byte
  pub reads_at : {text : List ℕ} → Reads p L O text → (x s : List ℕ) (r : Result A ReadFault) → text ≡ x ++ s → p text ≡ (s, r) → (t : List ℕ) → Alike s t → p (x ++ t) ≡ (t, r)
  reads_at (reads over rest r steady sound) x s q is stops t h =
      let e = sym (steady rest (alike_refl rest)) ∙ stops in
      let same : rest ≡ s = ap (λ z. z.0) e in
      let front : over ≡ x = append_cancel_right over x s (ap (λ z. over ++ z) (sym same) ∙ is) in
      ap (λ z. p (z ++ t)) (sym front) ∙ (steady t (subst (λ z. Alike z t) (sym same) h) ∙ ap (λ z. (t, z.1)) e)

  -- another stage that does the same on texts with this first byte
  pub via : {q : List ℕ → Stage A} {text : List ℕ} → Reads p L O text → ((t : List ℕ) → Alike text t → q t ≡ p t) → Reads q L O text
  via (reads over rest r steady sound) same = reads over rest r (λ t h. same (over ++ t) (alike_after over rest t h) ∙ steady t h) sound

  -- another language
  pub weaken : {M : List ℕ → A → Type 0} {P : List ℕ → Type 0} {text : List ℕ} → ((w : List ℕ) (a : A) → L w a → M w a) → ((w : List ℕ) → O w → P w) → Reads p L O text → Reads p M P text
  weaken {M} {P} to opened (reads over rest r steady sound) = reads over rest r steady (lift r sound)
    where
      lift : (r : Result A ReadFault) → Sound L O over r → Sound M P over r
      lift (Ok a) h = to over a h
      lift (Err f) ((v, a, h), o) = ((v, a, to (over ++ v) a h), λ e. opened over (o e))

-- the byte b was gone over first
pub pass : {A : Type 0} {p q : List ℕ → Stage A} {L : List ℕ → A → Type 0} {O : List ℕ → Type 0} {text : List ℕ} (b : ℕ) → ((t : List ℕ) → q (b ∷ t) ≡ p t) → Reads p (λ w. L (b ∷ w)) (λ w. O (b ∷ w)) text → Reads q L O (b ∷ text)
pass {A} {p} {q} {L} {O} b same (reads over rest r steady sound) = reads (b ∷ over) rest r (λ t h. same (over ++ t) ∙ steady t h) (lift r sound)
  where
    lift : (r : Result A ReadFault) → Sound (λ w. L (b ∷ w)) (λ w. O (b ∷ w)) over r → Sound L O (b ∷ over) r
    lift (Ok a) h = h
    lift (Err f) h = h

module _ {A B : Type 0} (p : List ℕ → Stage A) (q : A → List ℕ → Stage B) {L : List ℕ → B → Type 0} {O : List ℕ → Type 0} where
  after : (over rest : List ℕ) (a : A) → ((t : List ℕ) → Alike rest t → p (over ++ t) ≡ (t, Ok a)) → Reads (q a) (λ y. L (over ++ y)) (λ y. O (over ++ y)) rest → Reads (λ t. and_then (p t) q) L O (over ++ rest)
  after over _ a steady (reads more rest r again sound) =
      subst (Reads (λ t. and_then (p t) q) L O) (append_assoc over more rest)
      (reads (over ++ more) rest r
      (λ t h. rw append_assoc (ap (λ s. and_then s q) (steady (more ++ t) (alike_after more rest t h)) ∙ again t h)) (lift r sound))
    where
      lift : (r : Result B ReadFault) → Sound (λ y. L (over ++ y)) (λ y. O (over ++ y)) more r → Sound L O (over ++ more) r
      lift (Ok b) h = h
      lift (Err f) ((v, b, h), o) = ((v, b, rw append_assoc h), o)

  -- a stage after another: the first reads K, and the second what is left of L
  pub then_reads : {K : List ℕ → A → Type 0} {N : List ℕ → Type 0} {text : List ℕ} → ((w : List ℕ) → N w → O w) → Reads p K N text → ((x : List ℕ) (a : A) → K x a → (t : List ℕ) → Reads (q a) (λ y. L (x ++ y)) (λ y. O (x ++ y)) t) → Reads (λ t. and_then (p t) q) L O text
  then_reads opened (reads over rest (Ok a) steady sound) next = after over rest a steady (next over a sound rest)
  then_reads opened (reads over rest (Err f) steady ((v, a, k), o)) next =
      reads over rest (Err f) (λ t h. ap (λ s. and_then s q) (steady t h)) (begins over v (front (over ++ v) (next (over ++ v) a k [])), λ e. opened over (o e))
    where
      front : (x : List ℕ) → Reads (q a) (λ y. L (x ++ y)) (λ y. O (x ++ y)) [] → Begins L x
      front x h = within h
        where
          within : {text : List ℕ} → Reads (q a) (λ y. L (x ++ y)) (λ y. O (x ++ y)) text → Begins L x
          within (reads more rest (Ok b) _ h) = (more, b, h)
          within (reads more rest (Err _) _ ((v, b, h), _)) = (more ++ v, b, h)

      begins : (x v : List ℕ) → Begins L (x ++ v) → Begins L x
      begins x v (y, b, h) = (v ++ y, b, rw append_assoc at h)
