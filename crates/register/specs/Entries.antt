-- Which numbers the entries of a table declare.
use Rattle.std.specs.Prelude.{ℕ, Bool, false, slice_index_or}
use Rattle.register.specs.declared.entries.Entries.{Entries}

-- whether a number is declared
abbrev pub declared_in : {N : ℕ} → Entries N → ℕ → Bool
declared_in entries n = (slice_index_or entries.entries n (record { declared = false })).declared
