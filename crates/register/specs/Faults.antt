-- The number of each fault.
use Rattle.std.specs.Prelude.{ℕ}
use Rattle.hashes.specs.KeyFault.{number_of_key_fault}
use Rattle.register.specs.declared.fault.RecordFault.{RecordFault}
use Rattle.register.specs.declared.fault.RecordFault.TheVariants.{Range, Name, Repeated, Missing, Full}
use Rattle.register.specs.declared.fault.ImageFault.{ImageFault}
use Rattle.register.specs.declared.fault.ImageFault.TheVariants.{Key, Record, Framing, Code}

abbrev pub number_of_record_fault : RecordFault → ℕ
number_of_record_fault Range = 20
number_of_record_fault Name = 21
number_of_record_fault Repeated = 30
number_of_record_fault Missing = 31
number_of_record_fault Full = 32

abbrev pub number_of_image_fault : ImageFault → ℕ
number_of_image_fault (Key f) = number_of_key_fault f
number_of_image_fault (Record f) = number_of_record_fault f
number_of_image_fault Framing = 40
number_of_image_fault Code = 41
