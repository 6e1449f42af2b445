-- The fields of an image by their places, and what the code finds in them.
use Rattle.std.specs.Prelude.{◌≡◌, ℕ, ◌+◌, ◌-◌, ◌≤◌, true, false, cond, ◌&&◌, List, length, take, drop, Some, None, Option, IfSome, MatchOption, nat_le, slice_index}
use Rattle.hashes.specs.Word.{word}
use Rattle.register.specs.declared.framing.Field.{Field as Found}
use Rattle.register.specs.declared.record.SiteRecord.{SiteRecord}
use Rattle.register.specs.Values.{record_of}
use Rattle.register.specs.Records.{field}
use Rattle.register.specs.Fields.{is_record, is_seal, number_at, record_in}

-- a field by its tag, and by the place and the length of its value
pub record Place : Type 0 where
  pub tag : ℕ
  pub place : ℕ
  pub length : ℕ

-- a field of the code
abbrev pub place_of : Found → Place
place_of f = record { tag = f.tag; place = f.place; length = f.length }

-- the field that begins some bytes, which stand at a place of an image; None where its value does not end within them
abbrev pub first_place : List ℕ → ℕ → Option Place
first_place bytes at =
    cond (nat_le 3 (length bytes) && nat_le (number_at bytes 1) (length bytes - 3))
    (Some (record { tag = slice_index bytes 0; place = at + 3; length = number_at bytes 1 })) None

-- the field that begins at a place of an image
abbrev pub place_at : List ℕ → ℕ → Option Place
place_at image at = first_place (drop at image) at

-- where the reader stands after a field, or after none
abbrev pub place_after : ℕ → Option Place → ℕ
place_after at None = at
place_after at (Some f) = f.place + f.length

-- the value of a field, in its image
abbrev pub value_in : List ℕ → Place → List ℕ
value_in image f = take f.length (drop f.place image)

-- a reader that stood at a place of an image gives the next field or none, and goes behind it in the same image
pub record ReadsNext (image : List ℕ) (at : ℕ) (found : Option Place) (later : List ℕ) (next : ℕ) : Type 0 where
  pub finds : found ≡ place_at image at
  pub within : IfSome found (λ f. f.place + f.length ≤ length image)
  pub moves : next ≡ place_after at found
  pub holds : later ≡ image

-- the record that a field holds; none, because the field is no record's
abbrev pub ReadsRecord : ℕ → List ℕ → Option SiteRecord → Type 0
ReadsRecord tag value found =
    MatchOption found (is_record (field tag value) ≡ false) (λ r. (is_record (field tag value) ≡ true) × (record_of r ≡ record_in (field tag value)))

-- the code and the word of a seal field
abbrev pub seal_in : ℕ → List ℕ → Option (ℕ × ℕ)
seal_in tag value = cond (is_seal (field tag value)) (Some (slice_index value 0, word (drop 1 value))) None
