-- The reading of a line as a function that computes. A stage goes over a text as far as it fits.
use Rattle.std.specs.Prelude.{ℕ, zero, suc, ◌+◌, ◌-◌, ◌*◌, Bool, true, false, cond, List, [], ◌∷◌, length, take, Some, None, Ok, Err, codes, Option, Result, ◌==◌, slice_index}
use Rattle.std.specs.Borrow.{Bor}
use Rattle.line_reader.specs.declared.fault.ReadFault.{ReadFault}
use Rattle.line_reader.specs.declared.fault.ReadFault.TheVariants.{Syntax, Escape}
use Rattle.line_reader.specs.declared.kind.Kind.{Kind}
use Rattle.line_reader.specs.declared.kind.Kind.TheVariants.{Smoke, Heat, Call, Sounder}
use Rattle.line_reader.specs.declared.line.Line.{Line}
use Rattle.line_reader.specs.declared.line.Line.TheVariants.{Blank, Zone, Point, Rule}
use Rattle.line_reader.specs.Numbers.{number_of_kind, number_of_read_fault}
use Rattle.line_reader.specs.Grammar.{digit, leads, plain, unescaped, spelling, Sentence, nothing, zone, point, rule}

-- what a stage leaves of a text, and its answer
abbrev pub Stage : Type 0 → Type 0
Stage A = List ℕ × Result A ReadFault

-- the next stage on what the first leaves, unless the first refuses
abbrev pub and_then : {A B : Type 0} → Stage A → (A → List ℕ → Stage B) → Stage B
and_then (t, Ok a) next = next a t
and_then (t, Err f) next = (t, Err f)

-- the first byte, 0 if there is none
abbrev pub first : List ℕ → ℕ
first text = slice_index text 0

-- the word k, as far as it goes
abbrev pub read_word : List ℕ → List ℕ → Stage (Unit {0})
read_word [] text = (text, Ok tt)
read_word (c ∷ k) [] = ([], Err Syntax)
read_word (c ∷ k) (b ∷ t) = cond (b == c) (read_word k t) (b ∷ t, Err Syntax)

-- at most n more digits, after digits that are worth v
abbrev pub read_digits : ℕ → ℕ → List ℕ → Stage ℕ
read_digits zero v text = (text, Ok v)
read_digits (suc n) v [] = ([], Ok v)
read_digits (suc n) v (b ∷ t) = cond (digit b) (read_digits n (10 * v + (b - 48)) t) (b ∷ t, Ok v)

-- a byte that leads a number, and five digits at most
abbrev pub read_number : List ℕ → Stage ℕ
read_number text = cond (leads (first text)) (read_digits 5 0) (λ t. (t, Err Syntax)) text

-- the letter of an escape, after its backslash
abbrev pub read_escape : List ℕ → Stage ℕ
read_escape [] = ([], Err Escape)
read_escape (e ∷ t) = elim (unescaped e) [ Ok d ↦ (t, Ok d) | Err f ↦ (e ∷ t, Err f) ]

-- one character of a name, as its byte, if there is one
abbrev pub read_character : List ℕ → Stage (Option ℕ)
read_character [] = ([], Ok None)
read_character (b ∷ t) =
    cond (b == 92) (and_then (read_escape t) (λ d t. (t, Ok (Some d)))) (cond (plain b) (t, Ok (Some b)) (b ∷ t, Ok None))

-- the characters in front: their bytes, what is left after them, and the fault if a backslash there begins no escape;
-- the test says whether a backslash stands just before the text
abbrev pub characters : Bool → List ℕ → List ℕ × Stage (Unit {0})
characters false [] = ([], ([], Ok tt))
characters true [] = ([], ([], Err Escape))
characters false (b ∷ t) = cond (b == 92) (characters true t) (cond (plain b) (b ∷ (characters false t).0, (characters false t).1) ([], (b ∷ t, Ok tt)))
characters true (e ∷ t) = elim (unescaped e) [ Ok d ↦ (d ∷ (characters false t).0, (characters false t).1) | Err f ↦ ([], (e ∷ t, Err f)) ]

-- the bytes that a name stands for, as far as its characters go
abbrev pub decoded : List ℕ → List ℕ
decoded name = (characters false name).0

-- a name, as it is written
abbrev pub read_name : List ℕ → Stage (List ℕ)
read_name text = and_then (characters false text).1 (λ _ t. (t, Ok (take (length text - length t) text)))

-- the only kind whose word may stand in front, if there is one: heat by its h, call by its c, and
-- of the two with an s sounder by the o after it
abbrev pub likely : List ℕ → Option Kind
likely text =
    cond (first text == 104) (Some Heat)
    (cond (first text == 99) (Some Call)
    (cond (first text == 115) (Some (cond (slice_index text 1 == 111) Sounder Smoke)) None))

-- the word of this kind, if there is one
abbrev pub kind_word : List ℕ → Option Kind → Stage Kind
kind_word text None = (text, Err Syntax)
kind_word text (Some k) = and_then (read_word (spelling k) text) (λ _ t. (t, Ok k))

-- the word of a kind
abbrev pub read_kind : List ℕ → Stage Kind
read_kind text = kind_word text (likely text)

-- what is left after bytes but line feeds
abbrev pub past_remark : List ℕ → List ℕ
past_remark [] = []
past_remark (b ∷ t) = cond (b == 10) (b ∷ t) (past_remark t)

abbrev pub read_comment : List ℕ → Stage Sentence
read_comment text = and_then (read_word (codes "#") text) (λ _ t. (past_remark t, Ok nothing))

abbrev pub read_zone : List ℕ → Stage Sentence
read_zone text =
    and_then (read_word (codes "zone ") text) (λ _ t.
    and_then (read_number t) (λ n t.
    and_then (read_word (codes " \"") t) (λ _ t.
    and_then (read_name t) (λ name t.
    and_then (read_word (codes "\"") t) (λ _ t. (t, Ok (zone n name)))))))

abbrev pub read_point : List ℕ → Stage Sentence
read_point text =
    and_then (read_word (codes "point ") text) (λ _ t.
    and_then (read_number t) (λ n t.
    and_then (read_word (codes " ") t) (λ _ t.
    and_then (read_number t) (λ z t.
    and_then (read_word (codes " ") t) (λ _ t.
    and_then (read_kind t) (λ k t. (t, Ok (point n z (number_of_kind k)))))))))

abbrev pub read_rule : List ℕ → Stage Sentence
read_rule text =
    and_then (read_word (codes "rule ") text) (λ _ t.
    and_then (read_number t) (λ z t.
    and_then (read_word (codes " ") t) (λ _ t.
    and_then (read_number t) (λ n t. (t, Ok (rule z n))))))

-- the form of a line that begins with the byte b: #, z, p or r; no other byte begins a line
abbrev pub form : ℕ → List ℕ → Stage Sentence
form b =
    cond (b == 35) read_comment
    (cond (b == 122) read_zone
    (cond (b == 112) read_point
    (cond (b == 114) read_rule (λ t. (t, Err Syntax)))))

-- an empty line, or one of a form
abbrev pub read_form : List ℕ → Stage Sentence
read_form [] = ([], Ok nothing)
read_form (b ∷ t) = form b (b ∷ t)

abbrev pub read_end : List ℕ → Stage (Unit {0})
read_end [] = ([], Ok tt)
read_end (b ∷ t) = (b ∷ t, Err Syntax)

abbrev pub read_whole : List ℕ → Stage Sentence
read_whole text = and_then (read_form text) (λ s t. and_then (read_end t) (λ _ t. (t, Ok s)))

-- the answer on a line of which a stage leaves t
abbrev pub reading_by : List ℕ → Stage Sentence → Result Sentence (ℕ × ℕ)
reading_by line (t, Ok s) = Ok s
reading_by line (t, Err f) = Err (number_of_read_fault f, length line - length t)

-- what a line says, or its fault's number and column
abbrev pub reading : List ℕ → Result Sentence (ℕ × ℕ)
reading line = reading_by line (read_whole line)

-- what a line as read says
abbrev pub said : Line → Sentence
said Blank = nothing
said (Zone n name) = zone n name.now
said (Point n z k) = point n z (number_of_kind k)
said (Rule z n) = rule z n

abbrev pub told : Result Line ReadFault → Result Sentence ReadFault
told (Ok l) = Ok (said l)
told (Err f) = Err f

-- an answer of the code by its number and column
abbrev pub reading_of : Result Line (ReadFault × ℕ) → Result Sentence (ℕ × ℕ)
reading_of (Ok l) = Ok (said l)
reading_of (Err e) = Err (number_of_read_fault e.0, e.1)

-- what a name as read holds
abbrev pub held : {E : Type 0} → Result (Bor (List ℕ)) E → Result (List ℕ) E
held (Ok name) = Ok name.now
held (Err f) = Err f
