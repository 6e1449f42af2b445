-- The rows of the book as tests, on what is known of the records taken before.
use Rattle.std.specs.Prelude.{ℕ, ◌+◌, Bool, false, not, ◌&&◌, ◌||◌, if◌then◌else◌, List, length, Some, None, Option, ◌==◌, nat_le, nat_lt}
use Rattle.std.specs.List.{find, list_all, list_any}
use Rattle.register.specs.declared.fault.RecordFault.{RecordFault}
use Rattle.register.specs.declared.fault.RecordFault.TheVariants.{Range, Name, Repeated, Missing, Full}
use Rattle.register.specs.Records.{Record, zone, point, rule, field_length, message}
use Rattle.register.specs.Book.{last_kind, last_point, last_zone, longest_message, longest_name, rows}

-- whether a number is from the low to the high one
abbrev pub within : ℕ → ℕ → ℕ → Bool
within low high n = nat_le low n && nat_le n high

-- the tests of the book's predicates
abbrev pub name_byte : ℕ → Bool
name_byte b = within 0x20 0x7E b || b == 0x0A

abbrev pub zone_name : List ℕ → Bool
zone_name name = within 1 longest_name (length name) && list_all name_byte name

abbrev pub declares_zone : ℕ → Record → Bool
declares_zone z (zone n name) = n == z
declares_zone z (point n y kind) = false
declares_zone z (rule y p) = false

abbrev pub declares_point : ℕ → Record → Bool
declares_point p (zone n name) = false
declares_point p (point n z kind) = n == p
declares_point p (rule z q) = false

abbrev pub zone_declared : List Record → ℕ → Bool
zone_declared before z = list_any (declares_zone z) before

abbrev pub point_declared : List Record → ℕ → Bool
point_declared before p = list_any (declares_point p) before

-- what the rows ask of the records before: which zones and points are declared, and the length of the message
pub record Known : Type 0 where
  pub zones : ℕ → Bool
  pub points : ℕ → Bool
  pub bytes : ℕ

-- what they ask of records that a book took
abbrev pub known_of : List Record → Known
known_of before = record { zones = zone_declared before; points = point_declared before; bytes = length (message before) }

-- the rows, in the table's order
abbrev pub in_range : Record → Bool
in_range (zone n name) = within 1 last_zone n
in_range (point n z kind) = within 1 last_point n && within 1 last_zone z && within 1 last_kind kind
in_range (rule z p) = within 1 last_zone z && within 1 last_point p

abbrev pub range_fault : Record → Bool
range_fault r = not (in_range r)

abbrev pub name_fault : Record → Bool
name_fault (zone n name) = not (zone_name name)
name_fault (point n z kind) = false
name_fault (rule z p) = false

abbrev pub repeat_fault : Known → Record → Bool
repeat_fault known (zone n name) = known.zones n
repeat_fault known (point n z kind) = known.points n
repeat_fault known (rule z p) = false

abbrev pub missing_fault : Known → Record → Bool
missing_fault known (zone n name) = false
missing_fault known (point n z kind) = not (known.zones z)
missing_fault known (rule z p) = not (known.zones z && known.points p)

abbrev pub full_fault : Known → Record → Bool
full_fault known r = nat_lt longest_message (known.bytes + field_length r)

abbrev pub fits : Known → Record → RecordFault → Bool
fits known r Range = range_fault r
fits known r Name = name_fault r
fits known r Repeated = repeat_fault known r
fits known r Missing = missing_fault known r
fits known r Full = full_fault known r

-- the first row that fits, if any
abbrev pub first_fault_by : Known → Record → Option RecordFault
first_fault_by known r = find (fits known r) rows

-- after records that a book took
abbrev pub first_fault : List Record → Record → Option RecordFault
first_fault before r = first_fault_by (known_of before) r

-- the first row that fits a record whatever was taken before it, if any
abbrev pub unsound : Record → Option RecordFault
unsound r = if range_fault r then Some Range else (if name_fault r then Some Name else None)

-- numbers that are declared, with one more
abbrev pub with_number : (ℕ → Bool) → ℕ → ℕ → Bool
with_number declared n k = declared k || (n == k)

-- what is known with one zone, one point or one record more
abbrev pub with_zone : Known → ℕ → Known
with_zone known n = record { zones = with_number known.zones n; points = known.points; bytes = known.bytes }

abbrev pub with_point : Known → ℕ → Known
with_point known n = record { zones = known.zones; points = with_number known.points n; bytes = known.bytes }

abbrev pub with_declared : Known → Record → Known
with_declared known (zone n name) = with_zone known n
with_declared known (point n z kind) = with_point known n
with_declared known (rule z p) = known

-- a record that is taken declares its number and makes the message longer
abbrev pub with_record : Known → Record → Known
with_record known r =
    record { zones = (with_declared known r).zones; points = (with_declared known r).points; bytes = known.bytes + field_length r }
