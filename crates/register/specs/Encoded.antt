-- The bytes of a field that the code makes.
use Rattle.std.specs.Prelude.{ℕ, List, ◌++◌}
use Rattle.register.specs.declared.field.EncodedField.{EncodedField}
use Rattle.register.specs.declared.field.EncodedField.TheVariants.{Zone, Point, Rule}

abbrev pub encoded_bytes : EncodedField → List ℕ
encoded_bytes (Zone head name) = head ++ name.now
encoded_bytes (Point bytes) = bytes
encoded_bytes (Rule bytes) = bytes
