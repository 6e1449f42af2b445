-- The message tells its records: equal messages are of equal records.
use Rattle.std.proofs.Common.{◌≡◌, ℕ, ◌+◌, ◌*◌, ◌/◌, ◌%◌, ◌<◌, ◌≤◌, Bool, true, false, cond, leb, ◌⊎◌, List, [], ◌∷◌, ◌++◌, length, take, drop, Some, None, Decides, Option, sym, refl, ap, ◌∙◌, ap₂, inl, inr, append_assoc, append-nil, arith, length-append, take-append-drop, length-take-le}
use lib.Seq.{take-append_seam, drop-append_seam}
use Rattle.std.specs.List.{AllByRecursion}
use Rattle.std.proofs.lemmas.Bool.Decides.{Decides-or, Decides-and, Decides-eqb}
use Rattle.std.proofs.ByRecursion.{All-append}
use Rattle.hashes.specs.Word.{Bytes}
use Rattle.register.specs.Records.{Record, zone, point, rule, Field, field, two_bytes, bytes_of, field_of, field_length, message}
use Rattle.register.proofs.Firsts.{None_Some, Some_inj}
use Rattle.register.specs.Fields.{record_in, is_record_length, is_record, next_field, cut}

-- a record that fits its field: every number takes two bytes, the kind one byte, and the value's length two bytes
abbrev pub Encodable : Record → Type 0
Encodable (zone n name) = (n < 65536) × (length name < 65534) × Bytes name
Encodable (point n z kind) = (n < 65536) × (z < 65536) × (kind < 256)
Encodable (rule z p) = (z < 65536) × (p < 65536)

-- two bytes tell the number
pub two_bytes_tell : (n : ℕ) → n / 256 * 256 + n % 256 ≡ n
two_bytes_tell n = omega arith

-- a field tells its record
pub record_of_field : (r : Record) → record_in (field_of r) ≡ r
record_of_field (zone n name) = rw two_bytes_tell
record_of_field (point n z k) = rw (two_bytes_tell n, two_bytes_tell z)
record_of_field (rule z p) = rw (two_bytes_tell z, two_bytes_tell p)

pub field_inj : (r s : Record) → field_of r ≡ field_of s → r ≡ s
field_inj r s e = sym (record_of_field r) ∙ ap record_in e ∙ record_of_field s

pub cut_whole : (t n : ℕ) (v rest : List ℕ) → n ≡ length v → cut t n (v ++ rest) ≡ Some (field t v, rest)
cut_whole t n v rest e =
    let le : leb (length v) (length (v ++ rest)) ≡ true = rw length-append (grind arith) in
    rw (e, le, take-append_seam, drop-append_seam)

-- reading gives back the field written
pub next_field_reads : (f : Field) (rest : List ℕ) → next_field (bytes_of f ++ rest) ≡ Some (f, rest)
next_field_reads (field t v) rest = cut_whole t _ v rest (two_bytes_tell (length v))

-- a list of no records against one of Some
no_fields : (s : Record) (ss : List Record) → message [] ≡ message (s ∷ ss) → ⊥
no_fields s ss e =
    let both = ap next_field e ∙ next_field_reads (field_of s) (message ss) in cc

-- equal messages are of equal records
pub message_inj : (rs ss : List Record) → message rs ≡ message ss → rs ≡ ss
message_inj [] [] e = refl
message_inj [] (s ∷ ss) e = absurd (no_fields s ss e)
message_inj (r ∷ rs) [] e = absurd (no_fields r rs (sym e))
message_inj (r ∷ rs) (s ∷ ss) e =
    let both = Some_inj (sym (next_field_reads (field_of r) (message rs)) ∙ ap next_field e ∙ next_field_reads (field_of s) (message ss)) in
    ap₂ (λ x xs. x ∷ xs) (field_inj r s (ap (λ p. p.0) both)) (message_inj rs ss (ap (λ p. p.1) both))

-- two bytes of a number that they spell
pub high_of : (hi lo : ℕ) → lo < 256 → (hi * 256 + lo) / 256 ≡ hi
high_of hi lo h = omega arith

pub low_of : (hi lo : ℕ) → lo < 256 → (hi * 256 + lo) % 256 ≡ lo
low_of hi lo h = omega arith

cut_bytes : (t hi lo : ℕ) (bs : List ℕ) (f : Field) (rest : List ℕ) (b : Bool) → lo < 256 → leb (hi * 256 + lo) (length bs) ≡ b →
    ◌≡◌ {A = Option (Field × List ℕ)} (cond b (Some (field t (take (hi * 256 + lo) bs), drop (hi * 256 + lo) bs)) None) (Some (f, rest)) → t ∷ hi ∷ lo ∷ bs ≡ bytes_of f ++ rest
cut_bytes t hi lo bs f rest false l e q = absurd (None_Some q)
cut_bytes t hi lo bs f rest true l e q =
    let n : ℕ = hi * 256 + lo in
    let le : n ≤ length bs = grind arith in
    let both = Some_inj q in
    let ef : field t (take n bs) ≡ f = ap (λ p. p.0) both in
    let er : drop n bs ≡ rest = ap (λ p. p.1) both in
    let len : length (take n bs) ≡ n = length-take-le n bs le in
    rw (← ef, ← er, len, high_of hi lo l, low_of hi lo l, take-append-drop n bs)

-- the bytes read are those of the field, and then the rest
pub field_read : (bs : List ℕ) (f : Field) (rest : List ℕ) → Bytes bs → next_field bs ≡ Some (f, rest) → bs ≡ bytes_of f ++ rest
field_read [] f rest b e = absurd (None_Some e)
field_read (t ∷ []) f rest b e = absurd (None_Some e)
field_read (t ∷ hi ∷ []) f rest b e = absurd (None_Some e)
field_read (t ∷ hi ∷ lo ∷ bs) f rest b e = cut_bytes t hi lo bs f rest _ b.1.1.0 refl e

pub decides_leb : (a b : ℕ) → Decides (leb a b) (a ≤ b)
decides_leb a b = (λ e. grind arith, λ h. grind arith)

-- what the table of lengths says
pub record_lengths : (t n : ℕ) → Decides (is_record_length t n) ((((t ≡ 1) × (2 ≤ n)) ⊎ ((t ≡ 2) × (n ≡ 5))) ⊎ ((t ≡ 3) × (n ≡ 4)))
record_lengths t n =
    Decides-or _ _
    (Decides-or _ _ (Decides-and _ _ (Decides-eqb t 1) (decides_leb 2 n)) (Decides-and _ _ (Decides-eqb t 2) (Decides-eqb n 5)))
    (Decides-and _ _ (Decides-eqb t 3) (Decides-eqb n 4))

-- a field holds the record that is read from it
zone_read : (v : List ℕ) → Bytes v → 2 ≤ length v → field_of (record_in (field 1 v)) ≡ field 1 v
zone_read [] b h = absurd (omega arith)
zone_read (x ∷ []) b h = absurd (omega arith)
zone_read (x ∷ y ∷ v) b h = rw (high_of x y b.1.0, low_of x y b.1.0)

point_read : (v : List ℕ) → Bytes v → length v ≡ 5 → field_of (record_in (field 2 v)) ≡ field 2 v
point_read [] b h = absurd (omega arith)
point_read (x ∷ []) b h = absurd (omega arith)
point_read (x ∷ y ∷ []) b h = absurd (omega arith)
point_read (x ∷ y ∷ z ∷ []) b h = absurd (omega arith)
point_read (x ∷ y ∷ z ∷ w ∷ []) b h = absurd (omega arith)
point_read (x ∷ y ∷ z ∷ w ∷ k ∷ []) b h = rw (high_of x y b.1.0, low_of x y b.1.0, high_of z w b.1.1.1.0, low_of z w b.1.1.1.0)
point_read (x ∷ y ∷ z ∷ w ∷ k ∷ l ∷ v) b h = absurd (omega arith)

rule_read : (v : List ℕ) → Bytes v → length v ≡ 4 → field_of (record_in (field 3 v)) ≡ field 3 v
rule_read [] b h = absurd (omega arith)
rule_read (x ∷ []) b h = absurd (omega arith)
rule_read (x ∷ y ∷ []) b h = absurd (omega arith)
rule_read (x ∷ y ∷ z ∷ []) b h = absurd (omega arith)
rule_read (x ∷ y ∷ z ∷ w ∷ []) b h = rw (high_of x y b.1.0, low_of x y b.1.0, high_of z w b.1.1.1.0, low_of z w b.1.1.1.0)
rule_read (x ∷ y ∷ z ∷ w ∷ k ∷ v) b h = absurd (omega arith)

pub record_read : (f : Field) → Bytes (bytes_of f) → is_record f ≡ true → field_of (record_in f) ≡ f
record_read (field t v) bs e = go ((record_lengths t (length v)).0 e)
  where
    b : Bytes v
    b = bs.1.1.1

    go : (((t ≡ 1) × (2 ≤ length v)) ⊎ ((t ≡ 2) × (length v ≡ 5))) ⊎ ((t ≡ 3) × (length v ≡ 4)) → field_of (record_in (field t v)) ≡ field t v
    go (inl (inl h)) = rw h.0 (zone_read v b h.1)
    go (inl (inr h)) = rw h.0 (point_read v b h.1)
    go (inr h) = rw h.0 (rule_read v b h.1)

-- a record's field is a record field
pub field_is_record : (r : Record) → is_record (field_of r) ≡ true
field_is_record (zone n name) = (record_lengths 1 (length (zone_value n name))).1 (inl (inl (refl, omega arith)))
  where
    zone_value : ℕ → List ℕ → List ℕ
    zone_value m xs = two_bytes m ++ xs
field_is_record (point n z k) = refl
field_is_record (rule z p) = refl

-- the bytes of a record that fits its field
pub field_bytes : (r : Record) → Encodable r → Bytes (bytes_of (field_of r))
field_bytes (zone n name) h =
    (omega arith, (omega arith, (omega arith, (omega arith, (omega arith, h.2)))))
field_bytes (point n z k) h = omega arith
field_bytes (rule z p) h = omega arith

pub message_bytes : (rs : List Record) → AllByRecursion Encodable rs → Bytes (message rs)
message_bytes [] h = tt
message_bytes (r ∷ rs) h = All-append (λ b. b < 256) (bytes_of (field_of r)) (message rs) (field_bytes r h.0) (message_bytes rs h.1)

pub message_append : (rs ss : List Record) → message (rs ++ ss) ≡ message rs ++ message ss
message_append [] ss = refl
message_append (r ∷ rs) ss = ap (λ m. bytes_of (field_of r) ++ m) (message_append rs ss) ∙ sym (append_assoc (bytes_of (field_of r)) (message rs) (message ss))

-- the message after one record more
pub message_more : (before : List Record) (r : Record) → length (message (before ++ (r ∷ []))) ≡ length (message before) + field_length r
message_more before r =
    ap length (message_append before (r ∷ [])) ∙ length-append (message before) _ ∙ ap (λ x. length (message before) + length x) (append-nil (bytes_of (field_of r)))
