-- The first field of some bytes, and the record that a field holds.
use Rattle.std.specs.Prelude.{ℕ, ◌+◌, ◌*◌, Bool, cond, ◌&&◌, ◌||◌, List, [], ◌∷◌, length, take, drop, Some, None, Option, ◌==◌, nat_le, slice_index}
use Rattle.register.specs.Records.{Record, zone, point, rule, Field, field}

-- the number at place i of some bytes: two bytes, highest first
abbrev pub number_at : List ℕ → ℕ → ℕ
number_at bytes i = slice_index bytes i * 256 + slice_index bytes (i + 1)

-- the first n bytes as the value of a field, and the bytes after them
abbrev pub cut : ℕ → ℕ → List ℕ → Option (Field × List ℕ)
cut tag n rest = cond (nat_le n (length rest)) (Some (field tag (take n rest), drop n rest)) None

-- the first field, whatever its tag, and the bytes after it; None where no whole field begins the bytes
abbrev pub next_field : List ℕ → Option (Field × List ℕ)
next_field [] = None
next_field (tag ∷ []) = None
next_field (tag ∷ hi ∷ []) = None
next_field (tag ∷ hi ∷ lo ∷ rest) = cut tag (hi * 256 + lo) rest

-- the lengths that the tag of a record allows
abbrev pub is_record_length : ℕ → ℕ → Bool
is_record_length tag n = (tag == 1 && nat_le 2 n) || (tag == 2 && n == 5) || (tag == 3 && n == 4)

-- whether a field is a record's
abbrev pub is_record : Field → Bool
is_record (field tag value) = is_record_length tag (length value)

-- the record that such a field holds
abbrev pub record_in : Field → Record
record_in (field tag value) =
    cond (tag == 1) (zone (number_at value 0) (drop 2 value))
    (cond (tag == 2) (point (number_at value 0) (number_at value 2) (slice_index value 4)) (rule (number_at value 0) (number_at value 2)))

-- the tag of a seal field, and the length of its value: the family's code and eight seal bytes
abbrev pub seal_tag : ℕ
seal_tag = 0x53

abbrev pub seal_length : ℕ
seal_length = 9

-- the length of a whole seal field
abbrev pub seal_field_length : ℕ
seal_field_length = 3 + seal_length

-- whether a field is a seal field
abbrev pub is_seal : Field → Bool
is_seal (field tag value) = tag == seal_tag && length value == seal_length
