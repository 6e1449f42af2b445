-- The records of a site, the field that each adds to the message, and the message that they make.
use Rattle.std.specs.Prelude.{ℕ, ◌/◌, ◌%◌, List, [], ◌∷◌, ◌++◌, length}

-- A zone with its name, a point of a kind in a zone, or a rule: an alarm in a zone drives a point.
pub data Record : Type 0 where
  zone : (number : ℕ) (name : List ℕ) → Record
  point : (number in_zone kind : ℕ) → Record
  rule : (in_zone drives : ℕ) → Record

-- a number as two bytes, highest first
abbrev pub two_bytes : ℕ → List ℕ
two_bytes n = n / 256 ∷ n % 256 ∷ []

pub data Field : Type 0 where
  field : (tag : ℕ) (value : List ℕ) → Field

-- a field's bytes: the tag, the length of the value in two bytes, and the value
abbrev pub bytes_of : Field → List ℕ
bytes_of (field tag value) = tag ∷ (two_bytes (length value) ++ value)

-- the field of a record
abbrev pub field_of : Record → Field
field_of (zone n name) = field 1 (two_bytes n ++ name)
field_of (point n z kind) = field 2 (two_bytes n ++ two_bytes z ++ (kind ∷ []))
field_of (rule z p) = field 3 (two_bytes z ++ two_bytes p)

-- how many bytes a record adds to the message
abbrev pub field_length : Record → ℕ
field_length r = length (bytes_of (field_of r))

-- the message: the fields of the records, in order
abbrev pub message : List Record → List ℕ
message [] = []
message (r ∷ rs) = bytes_of (field_of r) ++ message rs
