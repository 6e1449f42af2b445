-- Images: the message of some records and then a seal field; and what the check of an image comes to.
use Rattle.std.specs.Prelude.{◌≡◌, ℕ, zero, suc, ◌+◌, ◌<◌, Bool, false, cond, ◌&&◌, ◌||◌, ◌≢◌, ◌⊎◌, List, [], ◌∷◌, ◌++◌, length, drop, Some, None, Option, ◌==◌, slice_index}
use Rattle.register.specs.declared.fault.RecordFault.{RecordFault}
use Rattle.register.specs.Records.{Record, Field, field, bytes_of, field_of, message}
use Rattle.register.specs.Fields.{number_at, is_record_length, is_record, record_in, next_field, seal_tag, seal_length, seal_field_length, is_seal}
use Rattle.register.specs.Faults.{number_of_record_fault}
use Rattle.register.specs.Book.{Refused, Accepted}
use Rattle.register.specs.Known.{first_fault}

-- the field that ends an image: the family's code, and eight seal bytes
abbrev pub seal_field : ℕ → List ℕ → Field
seal_field code seal = field seal_tag (code ∷ seal)

-- the image of some records
abbrev pub image : List Record → ℕ → List ℕ → List ℕ
image rs code seal = message rs ++ bytes_of (seal_field code seal)

-- some bytes begin with a record's field, or with a seal field
abbrev pub BeginsRecord : List ℕ → Record → List ℕ → Type 0
BeginsRecord bytes r rest = bytes ≡ bytes_of (field_of r) ++ rest

abbrev pub BeginsSeal : List ℕ → ℕ → List ℕ → List ℕ → Type 0
BeginsSeal bytes code seal rest = (length seal ≡ 8) × (bytes ≡ bytes_of (seal_field code seal) ++ rest)

-- they begin with neither
pub record Unframed (bytes : List ℕ) : Type 0 where
  pub not_record : (r : Record) (rest : List ℕ) → ¬ BeginsRecord bytes r rest
  pub not_seal : (code : ℕ) (seal rest : List ℕ) → ¬ BeginsSeal bytes code seal rest

-- the lengths that a tag allows, that of the seal field among them
abbrev pub is_known_length : ℕ → ℕ → Bool
is_known_length tag n = is_record_length tag n || (tag == seal_tag && n == seal_length)

-- the same by its causes: fewer than three bytes; a value past the end; an unknown tag or a wrong length
abbrev pub FramingFault : List ℕ → Type 0
FramingFault bytes = (length bytes < 3) ⊎ ((length bytes < 3 + number_at bytes 1) ⊎ (is_known_length (slice_index bytes 0) (number_at bytes 1) ≡ false))

-- What a check comes to: records and the seal bytes to compare with their seal, or the number of a fault with the offset of its field.
pub data Outcome : Type 0 where
  compares : (records : List Record) (seal : List ℕ) → Outcome
  faulty : (number offset : ℕ) → Outcome

-- The check of the bytes from an offset on, after the records taken before, by a family of this code.
pub data Checks (code : ℕ) : List Record → List ℕ → ℕ → Outcome → Type 0 where
  unframed : {before : List Record} {bytes : List ℕ} {offset : ℕ} → Unframed bytes → Checks code before bytes offset (faulty 40 offset)
  refuses : {before : List Record} {bytes : List ℕ} {offset : ℕ} {f : RecordFault} (r : Record) (rest : List ℕ) →
      BeginsRecord bytes r rest → Refused before r f → Checks code before bytes offset (faulty (number_of_record_fault f) offset)
  takes : {before : List Record} {bytes : List ℕ} {offset : ℕ} {o : Outcome} (r : Record) (rest : List ℕ) →
      BeginsRecord bytes r rest → Accepted before r → Checks code (before ++ (r ∷ [])) rest (offset + length (bytes_of (field_of r))) o →
      Checks code before bytes offset o
  trailing : {before : List Record} {bytes : List ℕ} {offset : ℕ} (c : ℕ) (seal rest : List ℕ) →
      BeginsSeal bytes c seal rest → rest ≢ [] → Checks code before bytes offset (faulty 40 (offset + seal_field_length))
  other_code : {before : List Record} {bytes : List ℕ} {offset : ℕ} (c : ℕ) (seal : List ℕ) →
      BeginsSeal bytes c seal [] → c ≢ code → Checks code before bytes offset (faulty 41 offset)
  ends : {before : List Record} {bytes : List ℕ} {offset : ℕ} (seal : List ℕ) →
      BeginsSeal bytes code seal [] → Checks code before bytes offset (compares before seal)

-- The same as a function. Each field takes some bytes, so the length bounds the number of fields.

-- the value of a field
abbrev pub value_of : Field → List ℕ
value_of (field tag value) = value

-- at a seal field, by the bytes after it
abbrev pub seal_outcome : ℕ → List Record → ℕ → List ℕ → List ℕ → Outcome
seal_outcome code before offset value (b ∷ rest) = faulty 40 (offset + seal_field_length)
seal_outcome code before offset value [] = cond (slice_index value 0 == code) (compares before (drop 1 value)) (faulty 41 offset)

-- at a record's field, by the row that refuses the record, if any
abbrev pub record_outcome : ℕ → Outcome → Option RecordFault → Outcome
record_outcome offset later None = later
record_outcome offset later (Some f) = faulty (number_of_record_fault f) offset

-- at the first field, if there is one
abbrev pub field_outcome : ℕ → List Record → ℕ → (Field → List ℕ → Outcome) → Option (Field × List ℕ) → Outcome
field_outcome code before offset later None = faulty 40 offset
field_outcome code before offset later (Some p) =
    cond (is_record p.0) (record_outcome offset (later p.0 p.1) (first_fault before (record_in p.0)))
    (cond (is_seal p.0) (seal_outcome code before offset (value_of p.0) p.1) (faulty 40 offset))

-- from an offset on, with at most so many fields to go
abbrev pub check_from : ℕ → ℕ → List Record → List ℕ → ℕ → Outcome
check_from zero code before bytes offset = faulty 40 offset
check_from (suc fuel) code before bytes offset =
    field_outcome code before offset (λ f rest. check_from fuel code (before ++ (record_in f ∷ [])) rest (offset + length (bytes_of f))) (next_field bytes)

-- of a whole image
abbrev pub check : ℕ → List ℕ → Outcome
check code bytes = check_from (length bytes) code [] bytes 0
