-- The site book: when each row of the table fits a record, and which records the book takes.
-- A record comes after the records taken before it; the first row that fits refuses it.
use Rattle.std.specs.Prelude.{◌≡◌, ℕ, ◌<◌, ◌≤◌, ◌⊎◌, List, [], ◌∷◌, ◌++◌, length}
use Rattle.std.specs.List.{AllByRecursion}
use Rattle.hashes.specs.Lists.{◌∈◌}
use Rattle.register.specs.declared.fault.RecordFault.{RecordFault}
use Rattle.register.specs.declared.fault.RecordFault.TheVariants.{Range, Name, Repeated, Missing, Full}
use Rattle.register.specs.Records.{Record, zone, point, rule, message}
use Rattle.register.specs.First.{First, NoneOf}

-- zones, points and kinds are numbered from 1 up to these
abbrev pub last_zone : ℕ
last_zone = 250

abbrev pub last_point : ℕ
last_point = 1000

abbrev pub last_kind : ℕ
last_kind = 4

-- the most bytes that a name, and a message, may have
abbrev pub longest_name : ℕ
longest_name = 40

abbrev pub longest_message : ℕ
longest_message = 60000

abbrev pub ZoneNumber : ℕ → Type 0
ZoneNumber n = (1 ≤ n) × (n ≤ last_zone)

abbrev pub PointNumber : ℕ → Type 0
PointNumber n = (1 ≤ n) × (n ≤ last_point)

-- 1 smoke, 2 heat, 3 call, 4 sounder
abbrev pub KindNumber : ℕ → Type 0
KindNumber n = (1 ≤ n) × (n ≤ last_kind)

-- printable ASCII, or a line break
abbrev pub NameByte : ℕ → Type 0
NameByte b = ((0x20 ≤ b) × (b ≤ 0x7E)) ⊎ (b ≡ 0x0A)

abbrev pub ZoneName : List ℕ → Type 0
ZoneName name = (1 ≤ length name) × (length name ≤ longest_name) × AllByRecursion NameByte name

-- what a record declares
abbrev pub DeclaresZone : ℕ → Record → Type 0
DeclaresZone z (zone n name) = n ≡ z
DeclaresZone z (point n y kind) = ⊥
DeclaresZone z (rule y p) = ⊥

abbrev pub DeclaresPoint : ℕ → Record → Type 0
DeclaresPoint p (zone n name) = ⊥
DeclaresPoint p (point n z kind) = n ≡ p
DeclaresPoint p (rule z q) = ⊥

-- declared: by a record taken before
abbrev pub ZoneDeclared : List Record → ℕ → Type 0
ZoneDeclared before z = (r : Record) × (r ∈ before) × DeclaresZone z r

abbrev pub PointDeclared : List Record → ℕ → Type 0
PointDeclared before p = (r : Record) × (r ∈ before) × DeclaresPoint p r

-- the numbers of a record are such as a site has
abbrev pub InRange : Record → Type 0
InRange (zone n name) = ZoneNumber n
InRange (point n z kind) = PointNumber n × ZoneNumber z × KindNumber kind
InRange (rule z p) = ZoneNumber z × PointNumber p

-- 20: a zone, a point or a kind is out of its range
abbrev pub RangeFault : Record → Type 0
RangeFault r = ¬ InRange r

-- 21: a zone's name is none that a panel can show
abbrev pub NameFault : Record → Type 0
NameFault (zone n name) = ¬ ZoneName name
NameFault (point n z kind) = ⊥
NameFault (rule z p) = ⊥

-- 30: the zone, or the point, is declared already
abbrev pub RepeatFault : List Record → Record → Type 0
RepeatFault before (zone n name) = ZoneDeclared before n
RepeatFault before (point n z kind) = PointDeclared before n
RepeatFault before (rule z p) = ⊥

-- 31: a zone or a point that the record names is not declared
abbrev pub MissingFault : List Record → Record → Type 0
MissingFault before (zone n name) = ⊥
MissingFault before (point n z kind) = ¬ ZoneDeclared before z
MissingFault before (rule z p) = ¬ (ZoneDeclared before z × PointDeclared before p)

-- 32: the message would pass its limit
abbrev pub FullFault : List Record → Record → Type 0
FullFault before r = longest_message < length (message (before ++ (r ∷ [])))

-- the row of a fault fits
abbrev pub Fits : List Record → Record → RecordFault → Type 0
Fits before r Range = RangeFault r
Fits before r Name = NameFault r
Fits before r Repeated = RepeatFault before r
Fits before r Missing = MissingFault before r
Fits before r Full = FullFault before r

-- the rows, in the table's order
abbrev pub rows : List RecordFault
rows = Range ∷ Name ∷ Repeated ∷ Missing ∷ Full ∷ []

-- the book refuses a record by the first row that fits, and takes it where none does
abbrev pub Refused : List Record → Record → RecordFault → Type 0
Refused before r = First (Fits before r) rows

abbrev pub Accepted : List Record → Record → Type 0
Accepted before r = NoneOf (Fits before r) rows

-- records that a book takes one after the other
abbrev pub TakenAfter : List Record → List Record → Type 0
TakenAfter before [] = Unit {0}
TakenAfter before (r ∷ rs) = Accepted before r × TakenAfter (before ++ (r ∷ [])) rs

-- the records of a book: each was taken after those before it
abbrev pub BookRecords : List Record → Type 0
BookRecords rs = TakenAfter [] rs
