-- Messages written into an output, field by field.
use Rattle.std.specs.Prelude.{◌≡◌, ℕ, ◌+◌, ◌-◌, ◌≤◌, cond, List, ◌++◌, length, take, drop, replicate, Some, None, Option, nat_le}
use Rattle.hashes.specs.Family.{Meaning}
use Rattle.register.specs.declared.fault.RecordFault.{RecordFault}
use Rattle.register.specs.Records.{Record, field_of, bytes_of, message}
use Rattle.register.specs.Known.{Known, first_fault_by}
use Rattle.register.specs.View.{View}

-- bytes written at a place, the others as they were
abbrev pub written : List ℕ → ℕ → List ℕ → List ℕ
written out at xs = take at out ++ (xs ++ drop (at + length xs) out)

-- the same, but only where there is room for all of them
abbrev pub put : List ℕ → ℕ → List ℕ → List ℕ
put out at xs = cond (nat_le (at + length xs) (length out)) (written out at xs) out

-- bytes followed by zeros, so many in all
abbrev pub filled_up : ℕ → List ℕ → List ℕ
filled_up room xs = xs ++ replicate (room - length xs) 0

-- an output of so many bytes holds the message of some records and then zeros, as soon as the message fits
abbrev pub Holds : ℕ → List Record → List ℕ → Type 0
Holds room rs out = length (message rs) ≤ room → out ≡ filled_up room (message rs)

-- what a call with a record leaves in an output: the field after the message, if the record is taken
abbrev pub output_by : Known → Record → List ℕ → Option RecordFault → List ℕ
output_by known r out None = put out known.bytes (bytes_of (field_of r))
output_by known r out (Some f) = out

abbrev pub output_after : (M : Meaning) → View M → Record → List ℕ → List ℕ
output_after M v r out = output_by v.known r out (first_fault_by v.known r)
