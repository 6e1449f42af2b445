-- The rows of the book by their definition and by their tests.
use Rattle.std.proofs.Common.{◌≡◌, ℕ, ◌<◌, ◌≤◌, Bool, true, false, ◌&&◌, ◌⊎◌, ◌↔◌, List, [], ◌∷◌, ◌++◌, length, Some, None, Decides, refl, subst, inl, inr, arith}
use mathlib.Core.Bool.{false≢true}
use Rattle.std.specs.List.{list_all, list_any}
use Rattle.std.proofs.ByRecursion.{All-weaker, Decides-by_and}
use Rattle.std.proofs.lemmas.Bool.Decides.{Decides-or, Decides-and, Decides-not, Decides-like, Decides-eqb, Decides-ltb}
use Rattle.hashes.specs.Lists.{◌∈◌}
use Rattle.hashes.specs.Word.{Bytes}
use Rattle.register.specs.declared.fault.RecordFault.{RecordFault}
use Rattle.register.specs.declared.fault.RecordFault.TheVariants.{Range, Name, Repeated, Missing, Full}
use Rattle.register.specs.Records.{Record, zone, point, rule, message}
use Rattle.register.specs.Book.{ZoneNumber, PointNumber, KindNumber, NameByte, ZoneName, DeclaresZone, DeclaresPoint, ZoneDeclared, PointDeclared, Fits, Refused, Accepted, rows, longest_message, InRange, NameFault, RepeatFault, MissingFault}
use Rattle.register.specs.Known.{fits, first_fault, within, zone_name, name_byte, known_of, zone_declared, point_declared, declares_zone, declares_point, in_range, name_fault, repeat_fault, missing_fault}
use Rattle.register.proofs.Encoding.{Encodable, decides_leb, message_more}
use Rattle.register.proofs.Firsts.{first_found, first_is_found, none_found, none_is_found}

pub decides_within : (low high n : ℕ) → Decides (within low high n) ((low ≤ n) × (n ≤ high))
decides_within low high n = Decides-and _ _ (decides_leb low n) (decides_leb n high)

decides_bottom : Decides false ⊥
decides_bottom = (λ e. false≢true e, λ h. absurd h)

pub decides_name : (name : List ℕ) → Decides (zone_name name) (ZoneName name)
decides_name name =
    Decides-like _ (λ h. (h.0.0, h.0.1, h.1)) (λ h. ((h.0, h.1), h.2))
    (Decides-and _ _ (decides_within 1 40 (length name))
    (Decides-by_and name_byte NameByte (list_all name_byte)
    (λ b. Decides-or _ _ (decides_within 0x20 0x7E b) (Decides-eqb b 0x0A)) refl (λ _ _. refl) name))

decides_declares_zone : (z : ℕ) (r : Record) → Decides (declares_zone z r) (DeclaresZone z r)
decides_declares_zone z (zone n name) = Decides-eqb n z
decides_declares_zone z (point n y k) = decides_bottom
decides_declares_zone z (rule y p) = decides_bottom

decides_declares_point : (p : ℕ) (r : Record) → Decides (declares_point p r) (DeclaresPoint p r)
decides_declares_point p (zone n name) = decides_bottom
decides_declares_point p (point n y k) = Decides-eqb n p
decides_declares_point p (rule y q) = decides_bottom

decides_any : (P : Record → Type 0) (p : Record → Bool) → ((r : Record) → Decides (p r) (P r)) → (rs : List Record) → Decides (list_any p rs) ((r : Record) × (r ∈ rs) × P r)
decides_any P p each [] = (λ e. absurd (false≢true e), λ h. absurd h.1)
decides_any P p each (r ∷ rs) = Decides-like _ to from (Decides-or _ _ (each r) (decides_any P p each rs))
  where
    to : P r ⊎ ((s : Record) × (s ∈ rs) × P s) → (s : Record) × (s ∈ (r ∷ rs)) × P s
    to (inl h) = (r, inl refl, h)
    to (inr h) = (h.0, inr h.1, h.2)

    at : (s : Record) → s ∈ (r ∷ rs) → P s → P r ⊎ ((t : Record) × (t ∈ rs) × P t)
    at s (inl e) h = inl (subst P e h)
    at s (inr m) h = inr (s, m, h)

    from : ((s : Record) × (s ∈ (r ∷ rs)) × P s) → P r ⊎ ((t : Record) × (t ∈ rs) × P t)
    from h = at h.0 h.1 h.2

pub decides_zone : (before : List Record) (z : ℕ) → Decides (zone_declared before z) (ZoneDeclared before z)
decides_zone before z = decides_any (DeclaresZone z) (declares_zone z) (decides_declares_zone z) before

pub decides_point : (before : List Record) (p : ℕ) → Decides (point_declared before p) (PointDeclared before p)
decides_point before p = decides_any (DeclaresPoint p) (declares_point p) (decides_declares_point p) before

decides_numbers : (n z kind : ℕ) → Decides (within 1 1000 n && within 1 250 z && within 1 4 kind) (PointNumber n × ZoneNumber z × KindNumber kind)
decides_numbers n z kind =
    Decides-like _ (λ h. (h.0.0, h.0.1, h.1)) (λ h. ((h.0, h.1), h.2))
    (Decides-and _ _ (Decides-and _ _ (decides_within 1 1000 n) (decides_within 1 250 z)) (decides_within 1 4 kind))

decides_in_range : (r : Record) → Decides (in_range r) (InRange r)
decides_in_range (zone n name) = decides_within 1 250 n
decides_in_range (point n z k) = decides_numbers n z k
decides_in_range (rule z p) = Decides-and _ _ (decides_within 1 250 z) (decides_within 1 1000 p)

pub decides_name_fault : (r : Record) → Decides (name_fault r) (NameFault r)
decides_name_fault (zone n name) = Decides-not _ (decides_name name)
decides_name_fault (point n z k) = decides_bottom
decides_name_fault (rule z p) = decides_bottom

pub decides_repeat : (before : List Record) (r : Record) → Decides (repeat_fault (known_of before) r) (RepeatFault before r)
decides_repeat before (zone n name) = decides_zone before n
decides_repeat before (point n z k) = decides_point before n
decides_repeat before (rule z p) = decides_bottom

pub decides_missing : (before : List Record) (r : Record) → Decides (missing_fault (known_of before) r) (MissingFault before r)
decides_missing before (zone n name) = decides_bottom
decides_missing before (point n z k) = Decides-not _ (decides_zone before z)
decides_missing before (rule z p) = Decides-not _ (Decides-and _ _ (decides_zone before z) (decides_point before p))

pub decides_fits : (before : List Record) (r : Record) (f : RecordFault) → Decides (fits (known_of before) r f) (Fits before r f)
decides_fits before r Range = Decides-not _ (decides_in_range r)
decides_fits before r Name = decides_name_fault r
decides_fits before r Repeated = decides_repeat before r
decides_fits before r Missing = decides_missing before r
decides_fits before r Full = rw message_more (Decides-ltb longest_message _)

-- the function gives the first row that fits
pub first_fault_iff : (before : List Record) (r : Record) (f : RecordFault) → (first_fault before r ≡ Some f) ↔ Refused before r f
first_fault_iff before r f = (
  first_found (Fits before r) (fits (known_of before) r) (decides_fits before r) rows f,
  first_is_found (Fits before r) (fits (known_of before) r) (decides_fits before r) rows f,
)

pub accepted_iff : (before : List Record) (r : Record) → (first_fault before r ≡ None) ↔ Accepted before r
accepted_iff before r = (
  none_found (Fits before r) (fits (known_of before) r) (decides_fits before r) rows,
  none_is_found (Fits before r) (fits (known_of before) r) (decides_fits before r) rows,
)

-- what is not refuted holds, where a test decides it
pub stable : {P : Type 0} (b : Bool) → Decides b P → ¬ ¬ P → P
stable true d h = d.0 refl
stable false d h = absurd (h (λ p. false≢true (d.1 p)))

-- the numbers and the name of a record that the book takes
pub accepted_in_range : (before : List Record) (r : Record) → Accepted before r → InRange r
accepted_in_range before r h = stable _ (decides_in_range r) h.0

pub accepted_name : (before : List Record) (n : ℕ) (name : List ℕ) → Accepted before (zone n name) → ZoneName name
accepted_name before n name h = stable _ (decides_name name) h.1.0

-- such a record fits its field
name_fits : (name : List ℕ) → ZoneName name → (length name < 65534) × Bytes name
name_fits name h = (omega arith, All-weaker NameByte (λ b. b < 256) (λ b k. small b k) name h.2)
  where
    small : (b : ℕ) → NameByte b → b < 256
    small b (inl k) = omega arith
    small b (inr e) = omega arith

pub accepted_encodable : (before : List Record) (r : Record) → Accepted before r → Encodable r
accepted_encodable before (zone n name) h =
    let z = accepted_in_range before (zone n name) h in
    let k = name_fits name (accepted_name before n name h) in
    (omega arith, k.0, k.1)
accepted_encodable before (point n z kind) h = let k = accepted_in_range before (point n z kind) h in (omega arith, omega arith, omega arith)
accepted_encodable before (rule z p) h = let k = accepted_in_range before (rule z p) h in (omega arith, omega arith)

pub accepted_length : (before : List Record) (r : Record) → Accepted before r → length (message (before ++ (r ∷ []))) ≤ longest_message
accepted_length before r h = omega (arith, h.1.1.1.1.0)
