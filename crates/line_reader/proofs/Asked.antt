-- What a line asks for is what the grammar says.
use Rattle.std.proofs.Common.{◌≡◌, ℕ, List, Ok, Err, Result, ap, ◌∙◌, subst, sym}
use Rattle.register.specs.Records as records
use Rattle.register.specs.Run.{Input, a_record, unread}
use Rattle.line_reader.specs.Calls.{Asks, LinesExact, asks_amiss, asks_nothing, asks_point, asks_rule, asks_zone, line_input, reading_input}
use Rattle.line_reader.specs.Grammar.{Name, Sentence, Spells, nothing, point, rule, zone, zone_line}
use Rattle.line_reader.specs.Reading.{reading}
use Rattle.line_reader.proofs.Judged.{Judged, reading_judged, readings_exact}
use Rattle.line_reader.proofs.Names.{name_decoded}

-- the name of a zone's line has bytes
named : {line : List ℕ} {n : ℕ} {w : List ℕ} → Spells line (zone n w) → (v : List ℕ) × Name w v
named (zone_line {v = v} u name) = (v, name)

asked : (line : List ℕ) (r : Result Sentence (ℕ × ℕ)) → Judged line r → Asks line (reading_input r)
asked line (Ok nothing) s = asks_nothing s
asked line (Ok (zone n w)) s =
    let (v, name) = named s in
    subst (λ (x : List ℕ). Asks line (a_record (records.zone n x))) (sym (name_decoded w v name)) (asks_zone s name)
asked line (Ok (point n z k)) s = asks_point s
asked line (Ok (rule z n)) s = asks_rule s
asked line (Err (k, c)) (f, number, faulty) = subst (λ (x : ℕ). Asks line (unread x c)) (sym number) (asks_amiss faulty)

read_so : (line : List ℕ) (s : Sentence) → Spells line s → line_input line ≡ reading_input (Ok s)
read_so line s h = ap reading_input ((readings_exact.sentence line s).1 h)

asked_only : (line : List ℕ) (input : Input) → Asks line input → line_input line ≡ input
asked_only line _ (asks_nothing s) = read_so line nothing s
asked_only line _ (asks_zone {n} {w} {v} s name) = read_so line (zone n w) s ∙ ap (λ (x : List ℕ). a_record (records.zone n x)) (name_decoded w v name)
asked_only line _ (asks_point {n} {z} {kind} s) = read_so line (point n z kind) s
asked_only line _ (asks_rule {z} {n} s) = read_so line (rule z n) s
asked_only line _ (asks_amiss {f} {c} faulty) = ap reading_input ((readings_exact.fault line f c).1 faulty)

pub lines_exact : LinesExact
lines_exact line input = (λ e. subst (Asks line) e (asked line (reading line) (reading_judged line)), asked_only line input)
