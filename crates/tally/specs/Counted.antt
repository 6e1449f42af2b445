-- What a comparison comes to, and what it adds to a tally.
use Rattle.std.specs.Prelude.{Bool, ◌+◌, ◌%◌, ◌^◌, if◌then◌else◌}
use Rattle.tally.specs.declared.Tally.{Tally}
use Rattle.tally.specs.declared.Verdict.{Verdict}
use Rattle.tally.specs.declared.Verdict.TheVariants.{Same, Differs}

abbrev pub verdict_of : Bool → Verdict
verdict_of same = if same then Same else Differs

-- a tally after one more comparison; both counts go round at 2^64
abbrev pub counted : Tally → Bool → Tally
counted tally same = record { lines = (tally.lines + 1) % 2 ^ 64; differ = if same then tally.differ else (tally.differ + 1) % 2 ^ 64 }
