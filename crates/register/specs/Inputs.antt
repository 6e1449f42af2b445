-- What a register replies to an input of a run, and what it leaves.
use Rattle.std.specs.Prelude.{ℕ, List}
use Rattle.hashes.specs.Family.{Meaning}
use Rattle.register.specs.Run.{Input, a_record, no_record, unread, Reply, taken, refused}
use Rattle.register.specs.View.{View, after, reply}
use Rattle.register.specs.Writing.{output_after}

-- its reply
abbrev pub input_reply : (M : Meaning) → View M → Input → Reply
input_reply M v (a_record r) = reply M v r
input_reply M v no_record = taken v.known.bytes
input_reply M v (unread n column) = refused n column

-- what it then stands for
abbrev pub input_after : (M : Meaning) → View M → Input → View M
input_after M v (a_record r) = after M v r
input_after M v no_record = v
input_after M v (unread n column) = v

-- what is then in an output
abbrev pub input_output : (M : Meaning) → View M → Input → List ℕ → List ℕ
input_output M v (a_record r) out = output_after M v r out
input_output M v no_record out = out
input_output M v (unread n column) out = out
