-- Reading a line of each form.
use Rattle.std.proofs.Common.{◌≡◌, ℕ, true, false, eqb, ◌≢◌, ◌⊎◌, List, [], ◌∷◌, ◌++◌, Ok, codes, sym, refl, ap, subst, inl, inr, append-nil, Err}
use Rattle.std.specs.List.{AllByRecursion}
use Rattle.std.proofs.lemmas.Bool.{cases_Bool, cond_both, eqb-false, ne_eqb}
use Rattle.line_reader.specs.declared.fault.ReadFault.TheVariants.{Syntax}
use Rattle.line_reader.specs.Numbers.{number_of_kind}
use Rattle.line_reader.specs.Grammar.{spelling, Sentence, nothing, zone, point, rule, Spells, empty_line, comment_line, zone_line, point_line, rule_line, OpensEscape, opens}
use Rattle.line_reader.specs.Reading.{Stage, and_then, read_word, read_number, read_name, read_kind, past_remark, read_comment, read_zone, read_point, read_rule, form, read_form}
use Rattle.line_reader.proofs.Steady.{Alike, Reads, stay, stay_at, stay_end, pass, via, weaken, then_reads}
use Rattle.line_reader.proofs.Leaves.{Never, no_fault, word_reads, number_reads, number_whole, number_last}
use Rattle.line_reader.proofs.KindWords.{kind_reads, kind_whole}
use Rattle.line_reader.proofs.Names.{name_reads, name_whole}

-- ---- how far each form goes

-- a word, and then what follows
word_then : {A : Type 0} {L : List ℕ → A → Type 0} {O : List ℕ → Type 0} (k : List ℕ) (q : List ℕ → Stage A) → ((t : List ℕ) → Reads q (λ y. L (k ++ y)) (λ y. O (k ++ y)) t) → (text : List ℕ) → Reads (λ t. and_then (read_word k t) (λ _. q)) L O text
word_then {A} {L} {O} k q next text =
    then_reads (read_word k) (λ _. q) (λ w o. absurd o) (word_reads k text) (λ x _ e t. subst (λ z. Reads q (λ y. L (z ++ y)) (λ y. O (z ++ y)) t) (sym e) (next t))

remark_reads : (text : List ℕ) → Reads (λ t. (past_remark t, Ok nothing)) (λ w s. AllByRecursion (λ b. b ≢ 10) w × (s ≡ nothing)) Never text
remark_reads [] = stay_end (Ok nothing) refl (tt, refl)
remark_reads (b ∷ t) = decide (cases_Bool (eqb b 10)) (remark_reads t)
  where
    decide : ((eqb b 10 ≡ true) ⊎ (eqb b 10 ≡ false)) → Reads (λ t. (past_remark t, Ok nothing)) (λ w s. AllByRecursion (λ b. b ≢ 10) w × (s ≡ nothing)) Never t → Reads (λ t. (past_remark t, Ok nothing)) (λ w s. AllByRecursion (λ b. b ≢ 10) w × (s ≡ nothing)) Never (b ∷ t)
    decide (inl e) h = stay_at b t (Ok nothing) (λ s. rw e) (tt, refl)
    decide (inr e) h = pass b (λ s. rw e) (weaken (λ w s (a, q). ((eqb-false b 10 e, a), q)) (λ w o. o) h)

comment_reads : (text : List ℕ) → Reads read_comment Spells OpensEscape text
comment_reads =
    word_then (codes "#") _ (λ t. weaken (λ w s (a, q). subst (Spells (codes "#" ++ w)) (sym q) (comment_line w a)) (λ w o. absurd o) (remark_reads t))

zone_reads : (text : List ℕ) → Reads read_zone Spells OpensEscape text
zone_reads =
    word_then (codes "zone ") _ (λ t.
    then_reads read_number _ (λ w o. absurd o) (number_reads t) (λ u n hn.
    word_then (codes " \"") _ (λ t.
    then_reads read_name _ (λ w (x, v, h, e). subst (λ z. OpensEscape (codes "zone " ++ (u ++ (codes " \"" ++ z)))) (sym e) (opens hn h)) (name_reads t) (λ w x (e, (v, h)).
    word_then (codes "\"") _ (λ t.
    stay t (Ok (zone n x)) (λ _. refl) (subst (λ z. Spells (codes "zone " ++ (u ++ (codes " \"" ++ (w ++ codes "\"")))) (zone n z)) e (zone_line hn h)))))))

point_reads : (text : List ℕ) → Reads read_point Spells OpensEscape text
point_reads =
    word_then (codes "point ") _ (λ t.
    then_reads read_number _ (λ w o. absurd o) (number_reads t) (λ u n hn.
    word_then (codes " ") _ (λ t.
    then_reads read_number _ (λ w o. absurd o) (number_reads t) (λ v z hz.
    word_then (codes " ") _ (λ t.
    then_reads read_kind _ (λ w o. absurd o) (kind_reads t) (λ w k e t.
    stay t (Ok (point n z (number_of_kind k))) (λ _. refl) (rw (append-nil, e) (point_line k hn hz))))))))

rule_reads : (text : List ℕ) → Reads read_rule Spells OpensEscape text
rule_reads =
    word_then (codes "rule ") _ (λ t.
    then_reads read_number _ (λ w o. absurd o) (number_reads t) (λ u z hz.
    word_then (codes " ") _ (λ t.
    then_reads read_number _ (λ w o. absurd o) (number_reads t) (λ v n hn t.
    stay t (Ok (rule z n)) (λ _. refl) (rw append-nil (rule_line hz hn))))))

abbrev ReadsLine : List ℕ → (List ℕ → Stage Sentence) → Type 0
ReadsLine text p = Reads p Spells OpensEscape text

-- the form of the first byte
form_by : (b : ℕ) (t s : List ℕ) → Alike (b ∷ t) s → read_form s ≡ form b s
form_by b t [] h = absurd h
form_by b t (c ∷ s) h = ap (λ (x : ℕ). form x (c ∷ s)) (sym h)

pub form_reads : (text : List ℕ) → Reads read_form Spells OpensEscape text
form_reads [] = stay_end (Ok nothing) refl empty_line
form_reads (b ∷ t) = via (chosen (b ∷ t)) (form_by b t)
  where
    chosen : (text : List ℕ) → Reads (form b) Spells OpensEscape text
    chosen text =
        cond_both (eqb b 35) _ _ (ReadsLine text) (λ _. comment_reads text) (λ _.
        cond_both (eqb b 122) _ _ (ReadsLine text) (λ _. zone_reads text) (λ _.
        cond_both (eqb b 112) _ _ (ReadsLine text) (λ _. point_reads text) (λ _.
        cond_both (eqb b 114) _ _ (ReadsLine text) (λ _. rule_reads text) (λ _.
        stay text (Err Syntax) (λ _. refl) (([], nothing, empty_line), no_fault)))))

-- ---- every line of the grammar is read whole

remark_whole : (t : List ℕ) → AllByRecursion (λ b. b ≢ 10) t → past_remark t ≡ []
remark_whole [] all = refl
remark_whole (b ∷ t) all = let e = ne_eqb b 10 all.0 in rw e (remark_whole t all.1)

pub form_whole : {w : List ℕ} {s : Sentence} → Spells w s → read_form w ≡ ([], Ok s)
form_whole empty_line = refl
form_whole (comment_line t all) = ap (λ r. (r, Ok nothing)) (remark_whole t all)
form_whole (zone_line {u = u} {w = w} hn hw) = rw (number_whole u (codes " \"" ++ (w ++ codes "\"")) hn refl, name_whole hw [])
form_whole (point_line {u = u} {v = v} k hn hz) =
    rw (number_whole u (codes " " ++ (v ++ (codes " " ++ spelling k))) hn refl, number_whole v (codes " " ++ spelling k) hz refl, kind_whole k)
form_whole (rule_line {u = u} {v = v} hz hn) = rw (number_whole u (codes " " ++ v) hz refl, number_last v hn)
