-- The numbers of kinds and of reading faults.
use Rattle.std.specs.Prelude.{ℕ}
use Rattle.line_reader.specs.declared.fault.ReadFault.{ReadFault}
use Rattle.line_reader.specs.declared.fault.ReadFault.TheVariants.{Syntax, Escape}
use Rattle.line_reader.specs.declared.kind.Kind.{Kind}
use Rattle.line_reader.specs.declared.kind.Kind.TheVariants.{Smoke, Heat, Call, Sounder}

abbrev pub number_of_kind : Kind → ℕ
number_of_kind Smoke = 1
number_of_kind Heat = 2
number_of_kind Call = 3
number_of_kind Sounder = 4

abbrev pub number_of_read_fault : ReadFault → ℕ
number_of_read_fault Syntax = 11
number_of_read_fault Escape = 12
