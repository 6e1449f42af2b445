-- The message in an image: what stands in front of the first seal field. Without such a field it is everything.
-- Fields are walked by their framing, whatever their tag: tag, two length bytes, value.
use Rattle.std.specs.Prelude.{◌≡◌, ℕ, zero, suc, cond, List, [], ◌∷◌, ◌++◌, length, Some, None, Option}
use Rattle.std.specs.List.{AllByRecursion}
use Rattle.register.specs.Records.{Field, field, bytes_of}
use Rattle.register.specs.Fields.{next_field, seal_tag, seal_length, is_seal}

-- a field is a seal field
abbrev pub SealField : Field → Type 0
SealField (field tag value) = (tag ≡ seal_tag) × (length value ≡ seal_length)

-- the bytes of some fields, in order
abbrev pub fields_bytes : List Field → List ℕ
fields_bytes [] = []
fields_bytes (f ∷ fs) = bytes_of f ++ fields_bytes fs

-- m is all before the first seal field of an image
pub record BeforeSeal (image m : List ℕ) : Type 0 where
  pub fields : List Field
  pub others : AllByRecursion (λ f. ¬ SealField f) fields
  pub seal : Field
  pub is_one : SealField seal
  pub rest : List ℕ
  pub split : image ≡ fields_bytes fields ++ (bytes_of seal ++ rest)
  pub same : m ≡ fields_bytes fields

-- what an image's message is
pub data MessageOf (image : List ℕ) : List ℕ → Type 0 where
  in_front : {m : List ℕ} → BeforeSeal image m → MessageOf image m
  everything : ((m : List ℕ) → ¬ BeforeSeal image m) → MessageOf image image

-- The same as a function, with the length as a bound for the number of fields.

-- by the first field, if there is one
abbrev pub message_at : List ℕ → (List ℕ → List ℕ) → Option (Field × List ℕ) → List ℕ
message_at bytes later None = bytes
message_at bytes later (Some p) = cond (is_seal p.0) [] (bytes_of p.0 ++ later p.1)

abbrev pub message_from : ℕ → List ℕ → List ℕ
message_from zero bytes = bytes
message_from (suc fuel) bytes = message_at bytes (message_from fuel) (next_field bytes)

abbrev pub message_of : List ℕ → List ℕ
message_of image = message_from (length image) image
