-- The grammar of a line: what a line says, and where and how one fails that is not in the grammar.
use Rattle.std.specs.Prelude.{◌≡◌, ℕ, ◌+◌, ◌-◌, ◌*◌, ◌≤◌, Bool, true, cond, not, ◌&&◌, ◌≢◌, List, [], ◌∷◌, ◌++◌, length, take, Ok, Err, codes, fold, Result, ◌==◌, nat_le, slice_index}
use Rattle.std.specs.List.{AllByRecursion}
use Rattle.line_reader.specs.declared.fault.ReadFault.{ReadFault}
use Rattle.line_reader.specs.declared.fault.ReadFault.TheVariants.{Syntax, Escape}
use Rattle.line_reader.specs.declared.kind.Kind.{Kind}
use Rattle.line_reader.specs.declared.kind.Kind.TheVariants.{Smoke, Heat, Call, Sounder}
use Rattle.line_reader.specs.Numbers.{number_of_kind}

-- 0 to 9
abbrev pub digit : ℕ → Bool
digit b = nat_le 48 b && nat_le b 57

-- whether a number may begin with this byte: with any digit but 0
abbrev pub leads : ℕ → Bool
leads b = digit b && not (b == 48)

-- what a run of digits is worth
abbrev pub worth : List ℕ → ℕ
worth w = fold (λ n b. 10 * n + (b - 48)) 0 w

-- w spells the number n by one to five digits
pub record Number (w : List ℕ) (n : ℕ) : Type 0 where
  pub digits : AllByRecursion (λ b. digit b ≡ true) w
  pub some : 1 ≤ length w
  pub few : length w ≤ 5
  pub lead : leads (slice_index w 0) ≡ true
  pub value : n ≡ worth w

-- whether a byte stands for itself in a name: 20 to 7E without the quote and the backslash
abbrev pub plain : ℕ → Bool
plain b = (nat_le 32 b && nat_le b 126) && (not (b == 34) && not (b == 92))

-- the byte that a backslash and this letter give: a quote, a backslash, and for n a line feed
abbrev pub unescaped : ℕ → Result ℕ ReadFault
unescaped e = cond (e == 34) (Ok 34) (cond (e == 92) (Ok 92) (cond (e == 110) (Ok 10) (Err Escape)))

-- a name as it is written, and its bytes
pub data Name : List ℕ → List ℕ → Type 0 where
  none : Name [] []
  itself : {b : ℕ} {w v : List ℕ} → plain b ≡ true → Name w v → Name (b ∷ w) (b ∷ v)
  escape : {e d : ℕ} {w v : List ℕ} → unescaped e ≡ Ok d → Name w v → Name (92 ∷ (e ∷ w)) (d ∷ v)

abbrev pub spelling : Kind → List ℕ
spelling Smoke = codes "smoke"
spelling Heat = codes "heat"
spelling Call = codes "call"
spelling Sounder = codes "sounder"

-- what a line says; a zone has its name as it is written, and a point its kind by number
pub data Sentence : Type 0 where
  nothing : Sentence
  zone : ℕ → List ℕ → Sentence
  point : (n z kind : ℕ) → Sentence
  rule : ℕ → ℕ → Sentence

-- a line, and what it says
pub data Spells : List ℕ → Sentence → Type 0 where
  empty_line : Spells [] nothing
  comment_line : (t : List ℕ) → AllByRecursion (λ b. b ≢ 10) t → Spells (codes "#" ++ t) nothing
  zone_line : {n : ℕ} {u w v : List ℕ} → Number u n → Name w v → Spells (codes "zone " ++ (u ++ (codes " \"" ++ (w ++ codes "\"")))) (zone n w)
  point_line : {n z : ℕ} {u v : List ℕ} (k : Kind) → Number u n → Number v z → Spells (codes "point " ++ (u ++ (codes " " ++ (v ++ (codes " " ++ spelling k))))) (point n z (number_of_kind k))
  rule_line : {z n : ℕ} {u v : List ℕ} → Number u z → Number v n → Spells (codes "rule " ++ (u ++ (codes " " ++ v))) (rule z n)

-- w begins a word of the language L, each word of which has a value
abbrev pub Begins : {A : Type 0} → (List ℕ → A → Type 0) → List ℕ → Type 0
Begins {A} L w = (v : List ℕ) × (a : A) × L (w ++ v) a

-- as far as c the line could still become one of the grammar, and no further
pub record Column (line : List ℕ) (c : ℕ) : Type 0 where
  pub within : c ≤ length line
  pub begins : Begins Spells (take c line)
  pub longest : (k : ℕ) → k ≤ length line → Begins Spells (take k line) → k ≤ c

-- the beginning of a line ends right behind the backslash of an escape
pub data OpensEscape : List ℕ → Type 0 where
  opens : {n : ℕ} {u w v : List ℕ} → Number u n → Name w v → OpensEscape (codes "zone " ++ (u ++ (codes " \"" ++ (w ++ codes "\\"))))

-- which fault a line has whose longest fitting beginning is w
abbrev pub Faults : List ℕ → ReadFault → Type 0
Faults w Syntax = OpensEscape w → ⊥
Faults w Escape = OpensEscape w

-- the line is not in the grammar, and has this fault at this column
pub record Faulty (line : List ℕ) (f : ReadFault) (c : ℕ) : Type 0 where
  pub unspelled : (s : Sentence) → Spells line s → ⊥
  pub column : Column line c
  pub fault : Faults (take c line) f
