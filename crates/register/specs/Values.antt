-- What the values of the code stand for: a record, a book and a register.
use Rattle.std.specs.Prelude.{ℕ, Bool}
use Rattle.hashes.specs.Family.{Meaning}
use Rattle.register.specs.declared.book.Book.{Book}
use Rattle.register.specs.declared.record.SiteRecord.{SiteRecord}
use Rattle.register.specs.declared.record.SiteRecord.TheVariants.{Zone, Point, Rule}
use Rattle.register.specs.declared.register.Register.{Register}
use Rattle.register.specs.Entries.{declared_in}
use Rattle.register.specs.Records.{Record, zone, point, rule}
use Rattle.register.specs.Known.{Known}
use Rattle.register.specs.View.{View}

-- the record that a call asks for
abbrev pub record_of : SiteRecord → Record
record_of (Zone number name) = zone number name.now
record_of (Point number in_zone kind) = point number in_zone kind
record_of (Rule in_zone drives) = rule in_zone drives

-- whether a zone, or a point, is declared in a book
abbrev pub zone_at : Book → ℕ → Bool
zone_at book z = declared_in book.zones z

abbrev pub point_at : Book → ℕ → Bool
point_at book p = declared_in book.points p

-- what is known in a book
abbrev pub known_in : Book → Known
known_in book = record { zones = zone_at book; points = point_at book; bytes = book.len }

-- what a register stands for, its family's state read by `state`
abbrev pub view : {F : Type 0} (M : Meaning) → (F → M.State) → Register F → View M
view M state r = record { state = state r.family; pad = r.pad; known = known_in r.book }
