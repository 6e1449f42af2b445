-- Reading a word and a number.
use Rattle.std.proofs.Common.{◌≡◌, ℕ, zero, suc, ◌+◌, ◌-◌, ◌*◌, ◌≤◌, true, false, eqb, ◌⊎◌, List, [], ◌∷◌, ◌++◌, length, Ok, Err, fold, sym, refl, ap, ◌∙◌, inl, inr, append-nil, arith}
use Rattle.std.specs.List.{AllByRecursion}
use Rattle.std.proofs.lemmas.Bool.{cases_Bool, eqb-true, and_parts}
use Rattle.line_reader.specs.declared.fault.ReadFault.TheVariants.{Syntax, Escape}
use Rattle.line_reader.specs.Grammar.{digit, leads, Number}
use Rattle.line_reader.specs.Reading.{first, read_word, read_digits, read_number}
use Rattle.line_reader.proofs.Steady.{Reads, stay, stay_at, stay_end, pass, weaken}

-- no escape is open
abbrev pub Never : List ℕ → Type 0
Never w = ⊥

pub no_fault : {P : Type 0} → Syntax ≡ Escape → P
no_fault e = absurd (let z : ◌≡◌ {A = ℕ} 0 1 = cc in omega arith)

-- ---- a word

abbrev pub Word : List ℕ → List ℕ → Unit {0} → Type 0
Word k w _ = w ≡ k

pub word_reads : (k text : List ℕ) → Reads (read_word k) (Word k) Never text
word_reads [] text = stay text (Ok tt) (λ _. refl) refl
word_reads (c ∷ k) [] = stay_end (Err Syntax) refl ((c ∷ k, tt, refl), no_fault)
word_reads (c ∷ k) (b ∷ t) = decide (cases_Bool (eqb b c)) (word_reads k t)
  where
    decide : ((eqb b c ≡ true) ⊎ (eqb b c ≡ false)) → Reads (read_word k) (Word k) Never t → Reads (read_word (c ∷ k)) (Word (c ∷ k)) Never (b ∷ t)
    decide (inl e) h = pass b (λ s. rw e) (weaken (λ w _ g. let f = eqb-true b c e in cc) (λ w o. o) h)
    decide (inr e) h = stay_at b t (Err Syntax) (λ s. rw e) ((c ∷ k, tt, refl), no_fault)

-- ---- a number

abbrev more : ℕ → ℕ → ℕ
more n b = 10 * n + (b - 48)

-- at most n digits, which take v to m
pub record DigitsRun (n v : ℕ) (w : List ℕ) (m : ℕ) : Type 0 where
  pub digits : AllByRecursion (λ b. digit b ≡ true) w
  pub few : length w ≤ n
  pub value : m ≡ fold more v w

digits_reads : (n v : ℕ) (text : List ℕ) → Reads (read_digits n v) (DigitsRun n v) Never text
digits_reads zero v text = stay text (Ok v) (λ _. refl) (record { digits = tt; few = omega arith; value = refl })
digits_reads (suc n) v [] = stay_end (Ok v) refl (record { digits = tt; few = omega arith; value = refl })
digits_reads (suc n) v (b ∷ t) = decide (cases_Bool (digit b)) (digits_reads n (more v b) t)
  where
    decide : ((digit b ≡ true) ⊎ (digit b ≡ false)) → Reads (read_digits n (more v b)) (DigitsRun n (more v b)) Never t → Reads (read_digits (suc n) v) (DigitsRun (suc n) v) Never (b ∷ t)
    decide (inl e) h = pass b (λ s. rw e) (weaken (λ w m r. record { digits = (e, r.digits); few = omega arith; value = r.value }) (λ w o. o) h)
    decide (inr e) h = stay_at b t (Ok v) (λ s. rw e) (record { digits = tt; few = omega arith; value = refl })

pub one : Number (49 ∷ []) 1
one = record { digits = (refl, tt); some = omega arith; few = omega arith; lead = refl; value = refl }

pub number_reads : (text : List ℕ) → Reads read_number Number Never text
number_reads [] = stay_end (Err Syntax) refl ((49 ∷ [], 1, one), no_fault)
number_reads (b ∷ t) = decide (cases_Bool (leads b))
  where
    decide : ((leads b ≡ true) ⊎ (leads b ≡ false)) → Reads read_number Number Never (b ∷ t)
    decide (inl e) =
        let d = (and_parts _ _ e).0 in
        pass b (λ s. rw (e, d))
        (weaken (λ w m r. record { digits = (d, r.digits); some = omega arith; few = omega arith; lead = e; value = r.value }) (λ w o. o) (digits_reads 4 (more 0 b) t))
    decide (inr e) = stay_at b t (Err Syntax) (λ s. rw e) ((49 ∷ [], 1, one), no_fault)

digits_whole : (n v : ℕ) (w t : List ℕ) → AllByRecursion (λ b. digit b ≡ true) w → length w ≤ n → digit (first t) ≡ false → read_digits n v (w ++ t) ≡ (t, Ok (fold more v w))
digits_whole zero v [] t all few e = refl
digits_whole zero v (b ∷ w) t all few e = absurd (omega arith)
digits_whole (suc n) v [] [] all few e = refl
digits_whole (suc n) v [] (b ∷ t) all few e = rw e
digits_whole (suc n) v (b ∷ w) t all few e = rw all.0 (digits_whole n (more v b) w t all.1 (omega arith) e)

-- a number before a byte that is no digit, or before the end
pub number_whole : {n : ℕ} (w t : List ℕ) → Number w n → digit (first t) ≡ false → read_number (w ++ t) ≡ (t, Ok n)
number_whole [] t h e = absurd (omega (arith, h.some))
number_whole (b ∷ w) t h e = rw (h.lead, h.value) (digits_whole 5 0 (b ∷ w) t h.digits h.few e)

pub number_last : {n : ℕ} (w : List ℕ) → Number w n → read_number w ≡ ([], Ok n)
number_last w h = ap read_number (sym (append-nil w)) ∙ number_whole w [] h refl
