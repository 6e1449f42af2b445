-- Runs of calls: the function and the relation agree, and what holds of every run.
use Rattle.std.proofs.Common.{◌≡◌, ◌≤◌, List, [], ◌∷◌, ◌++◌, length, Some, None, Option, sym, refl, ap, ◌∙◌, append_assoc, append-nil, arith}
use Rattle.std.specs.List.{AllByRecursion}
use Rattle.register.specs.declared.fault.RecordFault.{RecordFault}
use Rattle.register.specs.Records.{Record, message}
use Rattle.register.specs.Known.{first_fault}
use Rattle.register.specs.Book.{longest_message, TakenAfter, BookRecords}
use Rattle.register.specs.Run.{Input, a_record, no_record, unread, Reply, Step, takes, refuses, skips, rejects, Run, ends, calls, step_by, step, run}
use Rattle.register.proofs.Encoding.{Encodable}
use Rattle.register.proofs.Rows.{first_fault_iff, accepted_iff, accepted_encodable, accepted_length}

pub step_sound : (before : List Record) (b : Input) → Step before b (step before b).0 (step before b).1
step_sound before (a_record r) = go (first_fault before r) refl
  where
    go : (o : Option RecordFault) → first_fault before r ≡ o → Step before (a_record r) (step_by before r o).0 (step_by before r o).1
    go None e = takes ((accepted_iff before r).0 e)
    go (Some f) e = refuses ((first_fault_iff before r f).0 e)
step_sound before no_record = skips
step_sound before (unread n c) = rejects

step_complete : (before : List Record) (b : Input) (a : Reply) (after : List Record) → Step before b a after → step before b ≡ (a, after)
step_complete before (a_record r) a after (takes h) = rw ((accepted_iff before r).1 h)
step_complete before (a_record r) a after (refuses {f = f} h) = rw ((first_fault_iff before r f).1 h)
step_complete before no_record a after skips = refl
step_complete before (unread n c) a after rejects = refl

-- the function computes a run
pub run_is : (before : List Record) (bs : List Input) → Run before bs (run before bs).0 (run before bs).1
run_is before [] = ends
run_is before (b ∷ bs) = calls (step_sound before b) (run_is (step before b).1 bs)

-- and the only one
pub run_only : (before : List Record) (bs : List Input) (answers : List Reply) (after : List Record) → Run before bs answers after → run before bs ≡ (answers, after)
run_only before [] answers after ends = refl
run_only before (b ∷ bs) answers after (calls {between = t} s r) = rw (step_complete before b _ _ s, run_only t bs _ _ r)

-- the records after a run are those before it and then some that the book took
pub run_takes : (before : List Record) (bs : List Input) (answers : List Reply) (after : List Record) → Run before bs answers after →
    (more : List Record) × (after ≡ before ++ more) × TakenAfter before more
run_takes before [] answers after ends = ([], sym (append-nil before), tt)
run_takes before (b ∷ bs) answers after (calls {between = t} s r) = go b _ t s (run_takes t bs _ after r)
  where
    go : (x : Input) (a : Reply) (between : List Record) → Step before x a between →
        ((more : List Record) × (after ≡ between ++ more) × TakenAfter between more) → (more : List Record) × (after ≡ before ++ more) × TakenAfter before more
    go (a_record e) a between (takes h) m = (e ∷ m.0, m.1 ∙ append_assoc before (e ∷ []) m.0, (h, m.2))
    go (a_record e) a between (refuses h) m = m
    go no_record a between skips m = m
    go (unread n k) a between rejects m = m

-- every record taken fits its field
pub taken_encodable : (before rs : List Record) → TakenAfter before rs → AllByRecursion Encodable rs
taken_encodable before [] h = tt
taken_encodable before (r ∷ rs) h = (accepted_encodable before r h.0, taken_encodable (before ++ (r ∷ [])) rs h.1)

-- the message stays within its limit
pub taken_length : (before rs : List Record) → TakenAfter before rs → length (message before) ≤ longest_message → length (message (before ++ rs)) ≤ longest_message
taken_length before [] h l = rw append-nil l
taken_length before (r ∷ rs) h l = rw append_assoc at (taken_length (before ++ (r ∷ [])) rs h.1 (accepted_length before r h.0))

pub book_fits : (rs : List Record) → BookRecords rs → length (message rs) ≤ longest_message
book_fits rs b = taken_length [] rs b (omega arith)

-- the records of a new register, after any calls
pub run_book : (bs : List Input) (answers : List Reply) (rs : List Record) → Run [] bs answers rs → BookRecords rs × (length (message rs) ≤ longest_message)
run_book bs answers rs h =
    let t = run_takes [] bs answers rs h in
    let e : rs ≡ t.0 = t.1 in
    let b : BookRecords rs = rw e t.2 in
    (b, book_fits rs b)

-- one call more
pub runs_extend : (before : List Record) (inputs : List Input) (input : Input) →
    run before (inputs ++ (input ∷ [])) ≡ ((run before inputs).0 ++ ((step (run before inputs).1 input).0 ∷ []), (step (run before inputs).1 input).1)
runs_extend before [] input = refl
runs_extend before (x ∷ inputs) input = ap (λ (later : List Reply × List Record). ((step before x).0 ∷ later.0, later.1)) (runs_extend (step before x).1 inputs input)
