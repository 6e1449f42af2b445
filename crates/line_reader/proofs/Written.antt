-- The line that spells a record is read as it, and the text of records is cut into their lines.
use Rattle.std.proofs.Common.{◌≡◌, ℕ, zero, suc, ◌<◌, ◌≤◌, Bool, true, false, cond, not, ◌&&◌, ◌||◌, eqb, leb, ◌≢◌, List, [], ◌∷◌, ◌++◌, map, codes, sym, refl, ap, ◌∙◌, subst, inl, inr, true≢false, arith, lit<}
use Rattle.std.specs.List.{AllByRecursion}
use Rattle.std.proofs.ByRecursion.{All-weaker, All-append}
use Rattle.std.proofs.lemmas.Bool.{and_from, and_parts, not_from_false, le-leb, leb-true, leb-false, eqb-true, eqb-false, ne_eqb, cond-false}
use Rattle.hashes.specs.Family.{Meaning}
use Rattle.hashes.specs.Word.{Bytes}
use Rattle.register.specs.Records as records
use Rattle.register.specs.Book.{NameByte, Accepted, TakenAfter}
use Rattle.register.specs.Facts.{RegisterFacts}
use Rattle.register.specs.Run.{a_record}
use Rattle.line_reader.specs.declared.kind.Kind.{Kind}
use Rattle.line_reader.specs.declared.kind.Kind.TheVariants.{Smoke, Heat, Call, Sounder}
use Rattle.line_reader.specs.Numbers.{number_of_kind}
use Rattle.line_reader.specs.Grammar.{digit, Number, Name, none, itself, escape, spelling, zone_line, point_line, rule_line}
use Rattle.line_reader.specs.Calls.{Asks, asks_point, asks_rule, asks_zone, line_input}
use Rattle.line_reader.specs.Texts.{on_first, lines_of, decimal, escaped, kind_of, line_of, text_of}
use Rattle.line_reader.proofs.Asked.{lines_exact}
use Rattle.line_reader.proofs.Decimals.{decimal_number}

-- ---- names

escaped_byte : (b : ℕ) (w v : List ℕ) → NameByte b → Name w v → (x y z : Bool) → eqb b 34 ≡ x → eqb b 92 ≡ y → eqb b 10 ≡ z
    → Name (cond x (92 ∷ 34 ∷ w) (cond y (92 ∷ 92 ∷ w) (cond z (92 ∷ 110 ∷ w) (b ∷ w)))) (b ∷ v)
escaped_byte b w v h n true y z p q r = subst (λ (c : ℕ). Name (92 ∷ 34 ∷ w) (c ∷ v)) (sym (eqb-true b 34 p)) (escape refl n)
escaped_byte b w v h n false true z p q r = subst (λ (c : ℕ). Name (92 ∷ 92 ∷ w) (c ∷ v)) (sym (eqb-true b 92 q)) (escape refl n)
escaped_byte b w v h n false false true p q r = subst (λ (c : ℕ). Name (92 ∷ 110 ∷ w) (c ∷ v)) (sym (eqb-true b 10 r)) (escape refl n)
escaped_byte b w v (inl h) n false false false p q r =
    itself
    (and_from (leb 32 b && leb b 126) (not (eqb b 34) && not (eqb b 92))
    (and_from (leb 32 b) (leb b 126) (le-leb 32 b h.0) (le-leb b 126 h.1))
    (and_from (not (eqb b 34)) (not (eqb b 92)) (not_from_false (eqb b 34) p) (not_from_false (eqb b 92) q)))
    n
escaped_byte b w v (inr h) n false false false p q r = absurd (eqb-false b 10 r h)

escaped_name : (name : List ℕ) → AllByRecursion NameByte name → Name (escaped name) name
escaped_name [] h = none
escaped_name (b ∷ bs) h = escaped_byte b (escaped bs) bs h.0 (escaped_name bs h.1) (eqb b 34) (eqb b 92) (eqb b 10) refl refl refl

-- ---- kinds

kind_is : (k : ℕ) → 1 ≤ k → k ≤ 4 → number_of_kind (kind_of k) ≡ k
kind_is zero l h = absurd (omega arith)
kind_is (suc zero) l h = refl
kind_is (suc (suc zero)) l h = refl
kind_is (suc (suc (suc zero))) l h = refl
kind_is (suc (suc (suc (suc zero)))) l h = refl
kind_is (suc (suc (suc (suc (suc k))))) l h = absurd (omega arith)

-- ---- lines

-- the line of a record that a book takes asks for it
pub line_reads : {M : Meaning} → RegisterFacts M
    → (before : List records.Record) (r : records.Record) → Accepted before r
    → line_input (line_of r) ≡ a_record r
line_reads facts before (records.zone n name) a =
    let h = facts.accepted_in_range before (records.zone n name) a in
    let m = escaped_name name (facts.accepted_name before n name a).2 in
    (lines_exact _ _).1 (asks_zone (zone_line (decimal_number n h.0 (omega arith)) m) m)
line_reads facts before (records.point n z k) a =
    let h = facts.accepted_in_range before (records.point n z k) a in
    let asks = asks_point (point_line (kind_of k) (decimal_number n h.0.0 h.0.1) (decimal_number z h.1.0 (omega arith))) in
    (lines_exact _ _).1 (subst (λ (j : ℕ). Asks (line_of (records.point n z k)) (a_record (records.point n z j))) (kind_is k h.2.0 h.2.1) asks)
line_reads facts before (records.rule z p) a =
    let h = facts.accepted_in_range before (records.rule z p) a in
    (lines_exact _ _).1 (asks_rule (rule_line (decimal_number z h.0.0 (omega arith)) (decimal_number p h.1.0 h.1.1)))

-- ---- texts

-- a byte that is no line feed
LineByte : ℕ → Type 0
LineByte b = (b ≢ 10) × (b < 256)

LineBytes : List ℕ → Type 0
LineBytes w = AllByRecursion LineByte w

digit_line : (b : ℕ) → digit b ≡ true → LineByte b
unfolding LineByte
digit_line b d =
    let p = and_parts (leb 48 b) (leb b 57) d in
    let low : 48 ≤ b = leb-true 48 b p.0 in
    let high : b ≤ 57 = leb-true b 57 p.1 in
    ((λ e. omega (arith, low)), omega (arith, high))

digits_bytes : (w : List ℕ) (n : ℕ) → Number w n → LineBytes w
unfolding LineBytes
digits_bytes w n h = All-weaker (λ (b : ℕ). digit b ≡ true) LineByte digit_line w h.digits

escaped_line : (b : ℕ) (w : List ℕ) → NameByte b → LineBytes w → (x y z : Bool) → eqb b 10 ≡ z
    → LineBytes (cond x (92 ∷ 34 ∷ w) (cond y (92 ∷ 92 ∷ w) (cond z (92 ∷ 110 ∷ w) (b ∷ w))))
unfolding LineBytes LineByte
escaped_line b w h n true y z r = (((λ e. omega arith), omega arith), (((λ e. omega arith), omega arith), n))
escaped_line b w h n false true z r = (((λ e. omega arith), omega arith), (((λ e. omega arith), omega arith), n))
escaped_line b w h n false false true r = (((λ e. omega arith), omega arith), (((λ e. omega arith), omega arith), n))
escaped_line b w (inl h) n false false false r = ((eqb-false b 10 r, omega (arith, h.1)), n)
escaped_line b w (inr h) n false false false r = absurd (eqb-false b 10 r h)

name_bytes : (name : List ℕ) → AllByRecursion NameByte name → LineBytes (escaped name)
unfolding LineBytes
name_bytes [] h = tt
name_bytes (b ∷ bs) h = escaped_line b (escaped bs) h.0 (name_bytes bs h.1) (eqb b 34) (eqb b 92) (eqb b 10) refl

-- words, by a test
feeds : List ℕ → Bool
feeds [] = false
feeds (b ∷ bs) = cond (eqb b 10 || leb 256 b) true (feeds bs)

word_bytes : (w : List ℕ) → feeds w ≡ false → LineBytes w
unfolding LineBytes LineByte feeds
word_bytes [] e = tt
word_bytes (b ∷ bs) e = go (word_bytes bs) (eqb b 10) (leb 256 b) refl refl e
  where
    go : (feeds bs ≡ false → AllByRecursion LineByte bs) → (x y : Bool) → eqb b 10 ≡ x → leb 256 b ≡ y → cond (x || y) true (feeds bs) ≡ false → LineByte b × AllByRecursion LineByte bs
    go later true y p r q = absurd (true≢false q)
    go later false true p r q = absurd (true≢false q)
    go later false false p r q = ((eqb-false b 10 p, leb-false 256 b r), later q)

kind_bytes : (k : Kind) → LineBytes (spelling k)
unfolding feeds
kind_bytes Smoke = word_bytes (codes "smoke") refl
kind_bytes Heat = word_bytes (codes "heat") refl
kind_bytes Call = word_bytes (codes "call") refl
kind_bytes Sounder = word_bytes (codes "sounder") refl

both_bytes : (xs ys : List ℕ) → LineBytes xs → LineBytes ys → LineBytes (xs ++ ys)
unfolding LineBytes LineByte
both_bytes xs ys p q = All-append LineByte xs ys p q

number_bytes : (n : ℕ) → 1 ≤ n → n ≤ 1000 → LineBytes (decimal n)
number_bytes n low high = digits_bytes (decimal n) n (decimal_number n low high)

line_bytes : {M : Meaning} → RegisterFacts M → (before : List records.Record) (r : records.Record)
    → Accepted before r → LineBytes (line_of r)
unfolding feeds
line_bytes facts before (records.zone n name) a =
    let h = facts.accepted_in_range before (records.zone n name) a in
    both_bytes (codes "zone ") _ (word_bytes (codes "zone ") refl) (both_bytes (decimal n) _ (number_bytes n h.0 (omega arith))
    (both_bytes (codes " \"") _ (word_bytes (codes " \"") refl)
    (both_bytes (escaped name) (codes "\"")
    (name_bytes name (facts.accepted_name before n name a).2) (word_bytes (codes "\"") refl))))
line_bytes facts before (records.point n z k) a =
    let h = facts.accepted_in_range before (records.point n z k) a in
    both_bytes (codes "point ") _ (word_bytes (codes "point ") refl) (both_bytes (decimal n) _ (number_bytes n h.0.0 h.0.1)
    (both_bytes (codes " ") _ (word_bytes (codes " ") refl) (both_bytes (decimal z) _ (number_bytes z h.1.0 (omega arith))
    (both_bytes (codes " ") _ (word_bytes (codes " ") refl) (kind_bytes (kind_of k))))))
line_bytes facts before (records.rule z p) a =
    let h = facts.accepted_in_range before (records.rule z p) a in
    both_bytes (codes "rule ") _ (word_bytes (codes "rule ") refl) (both_bytes (decimal z) _ (number_bytes z h.0.0 (omega arith))
    (both_bytes (codes " ") _ (word_bytes (codes " ") refl) (number_bytes p h.1.0 h.1.1)))

-- a line and a line feed
lines_first : (l rest : List ℕ) → LineBytes l → lines_of (l ++ (10 ∷ rest)) ≡ l ∷ lines_of rest
unfolding LineBytes LineByte
lines_first [] rest h = refl
lines_first (b ∷ l) rest h =
    cond-false (eqb b 10) ([] ∷ lines_of (l ++ (10 ∷ rest))) (on_first b (lines_of (l ++ (10 ∷ rest)))) (ne_eqb b 10 h.0.0)
    ∙ ap (on_first b) (lines_first l rest h.1)

-- the lines of the text of records that a book takes
pub text_lines : {M : Meaning} → RegisterFacts M → (before rs : List records.Record)
    → TakenAfter before rs → lines_of (text_of rs) ≡ map line_of rs
text_lines facts before [] h = refl
text_lines facts before (r ∷ rs) h =
    lines_first (line_of r) (text_of rs) (line_bytes facts before r h.0)
    ∙ ap (λ (ls : List (List ℕ)). line_of r ∷ ls) (text_lines facts (before ++ (r ∷ [])) rs h.1)

-- and the text is a string of bytes
pub text_bytes : {M : Meaning} → RegisterFacts M → (before rs : List records.Record)
    → TakenAfter before rs → Bytes (text_of rs)
unfolding LineBytes LineByte
text_bytes facts before [] h = tt
text_bytes facts before (r ∷ rs) h =
    All-append (λ (b : ℕ). b < 256) (line_of r) (10 ∷ text_of rs)
    (All-weaker LineByte (λ (b : ℕ). b < 256) (λ b k. k.1) (line_of r)
    (line_bytes facts before r h.0))
    (lit< tt, text_bytes facts (before ++ (r ∷ [])) rs h.1)
