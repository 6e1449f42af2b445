-- The check's way through an image.
use Rattle.std.proofs.Common.{◌≡◌, ℕ, zero, suc, ◌+◌, ◌-◌, ◌*◌, ◌≤◌, Bool, true, false, cond, eqb, leb, List, [], ◌∷◌, ◌++◌, length, get_or, take, drop, Some, None, Ok, Err, Result, sym, refl, ap, ◌∙◌, subst, arith, length-drop, length-take-le, drop-drop, eq-eqb, ne_eqb}
use Rattle.hashes.specs.Family.{Meaning}
use Rattle.hashes.specs.Word.{word}
use Rattle.register.specs.declared.fault.RecordFault.{RecordFault}
use Rattle.register.specs.declared.fault.ImageFault.{ImageFault}
use Rattle.register.specs.declared.fault.ImageFault.TheVariants.{Record as FaultyRecord, Framing, Code}
use Rattle.register.specs.Records.{Record, Field, field, bytes_of}
use Rattle.register.specs.Fields.{is_record, record_in, next_field, is_seal}
use Rattle.register.specs.Faults.{number_of_record_fault}
use Rattle.register.specs.Known.{first_fault}
use Rattle.register.specs.Run.{taken, refused}
use Rattle.register.specs.Image.{Outcome, compares, faulty, seal_outcome, record_outcome, field_outcome, check_from, check}
use Rattle.register.specs.FieldPlaces.{Place, ReadsNext, first_place, place_at, seal_in, value_in}
use Rattle.register.specs.View.{View, standing, reply, after}
use Rattle.register.specs.Walking.{Answers, seal_field_answer}
use Rattle.register.proofs.Firsts.{None_Some, Some_inj}
use Rattle.register.proofs.Images.{decides_seal}
use Rattle.register.proofs.Steps.{call_refused, call_taken}

-- a field that a reader of the image gives, where it stands
pub record Gives (image : List ℕ) (at : ℕ) (f : Place) : Type 0 where
  pub within : at ≤ length image
  pub found : place_at image at ≡ Some f

pub gives : (image held later : List ℕ) (at place next : ℕ) (f : Place) → held ≡ image → place ≡ at → place ≤ length held → ReadsNext held place (Some f) later next →
    Gives image at f
gives image held later at place next f same here within reads =
    record { within = rw (← same, ← here) within; found = rw (← same, ← here) (sym reads.finds) }

-- where the check stands: after some records, with the bytes from `at` on to go
pub record Walked (M : Meaning) (key : List ℕ) (pad : ℕ) (image : List ℕ) (v : View M) (at : ℕ) : Type 0 where
  pub fuel : ℕ
  pub before : List Record
  pub stands : v ≡ standing M key pad before
  pub enough : length (drop at image) ≤ fuel
  pub same : check M.code image ≡ check_from fuel M.code before (drop at image) at

-- a field by its place, and as it is read
pub record Link (bytes : List ℕ) (at : ℕ) (f : Place) : Type 0 where
  pub place : f.place ≡ at + 3
  pub fits : 3 + f.length ≤ length bytes
  pub next : next_field bytes ≡ Some (field f.tag (take f.length (drop 3 bytes)), drop (3 + f.length) bytes)

found : ℕ → ℕ → ℕ → Place
found t at n = record { tag = t; place = at + 3; length = n }

at_three : (t h l at : ℕ) (rest : List ℕ) → first_place (t ∷ h ∷ l ∷ rest) at ≡ cond (leb (h * 256 + l) (length rest)) (Some (found t at (h * 256 + l))) None
unfolding found
at_three t h l at rest =
    let a : leb 3 (suc (suc (suc (length rest)))) ≡ true = grind arith in
    let b : suc (suc (suc (length rest))) - 3 ≡ length rest = omega arith in
    rw (a, b)

pub none_link : (bytes : List ℕ) (at : ℕ) → first_place bytes at ≡ None → next_field bytes ≡ None
none_link [] at e = refl
none_link (t ∷ []) at e = refl
none_link (t ∷ h ∷ []) at e = refl
none_link (t ∷ h ∷ l ∷ rest) at e = go (leb (h * 256 + l) (length rest)) refl (sym (at_three t h l at rest) ∙ e)
  where
    go : (b : Bool) → leb (h * 256 + l) (length rest) ≡ b → cond b (Some (found t at (h * 256 + l))) None ≡ None → next_field (t ∷ h ∷ l ∷ rest) ≡ None
    go true q k = absurd (None_Some (sym k))
    go false q k = rw q

pub some_link : (bytes : List ℕ) (at : ℕ) (f : Place) → first_place bytes at ≡ Some f → Link bytes at f
unfolding found
some_link [] at f e = absurd (None_Some e)
some_link (t ∷ []) at f e = absurd (None_Some e)
some_link (t ∷ h ∷ []) at f e = absurd (None_Some e)
some_link (t ∷ h ∷ l ∷ rest) at f e = go (leb (h * 256 + l) (length rest)) refl (sym (at_three t h l at rest) ∙ e)
  where
    n : ℕ
    n = h * 256 + l

    ds : (k : ℕ) → drop (3 + k) (t ∷ h ∷ l ∷ rest) ≡ drop k rest
    ds k = sym (drop-drop k 3 (t ∷ h ∷ l ∷ rest))

    here : leb n (length rest) ≡ true → Link (t ∷ h ∷ l ∷ rest) at (found t at n)
    here q = record { place = refl; fits = grind arith; next = rw (q, ds n) }

    go : (b : Bool) → leb n (length rest) ≡ b → cond b (Some (found t at n)) None ≡ Some f → Link (t ∷ h ∷ l ∷ rest) at f
    go true q k = subst (Link (t ∷ h ∷ l ∷ rest) at) (Some_inj k) (here q)
    go false q k = absurd (None_Some k)

-- no field is left
pub walk_ends : (M : Meaning) (key : List ℕ) (pad : ℕ) (image : List ℕ) (v : View M) (at : ℕ) → Walked M key pad image v at → place_at image at ≡ None →
    Answers M key pad (check M.code image) (Err (Framing, at)) v
walk_ends M key pad image v at w e = subst (λ o. Answers M key pad o (Err (Framing, at)) v) (sym (w.same ∙ stops w.fuel)) (refl, refl)
  where
    stops : (fuel : ℕ) → check_from fuel M.code w.before (drop at image) at ≡ faulty 40 at
    stops zero = refl
    stops (suc fuel) = rw (none_link (drop at image) at e)

-- a whole field
module _ (image : List ℕ) (at : ℕ) (f : Place) (given : Gives image at f) where
  link : Link (drop at image) at f
  link = some_link (drop at image) at f given.found

  -- where it begins
  pub next_start : f.place - 3 ≡ at
  next_start = omega (arith, link.place)

  next_within : f.place + f.length ≤ length image
  next_within = omega (arith, link.fits, link.place, length-drop at image, given.within)

  read_next : next_field (drop at image) ≡ Some (field f.tag (take f.length (drop f.place image)), drop (f.place + f.length) image)
  read_next =
      let a : drop 3 (drop at image) ≡ drop f.place image = drop-drop 3 at image ∙ ap (λ k. drop k image) (sym link.place) in
      let s : at + (3 + f.length) ≡ f.place + f.length = omega (arith, link.place) in
      let b : drop (3 + f.length) (drop at image) ≡ drop (f.place + f.length) image = drop-drop (3 + f.length) at image ∙ ap (λ k. drop k image) s in
      link.next ∙ ap (λ v. Some (field f.tag (take f.length v), drop (3 + f.length) (drop at image))) a
      ∙ ap (λ r. Some (field f.tag (take f.length (drop f.place image)), r)) b

  value : List ℕ
  value = take f.length (drop f.place image)

  value_length : length value ≡ f.length
  unfolding value
  value_length = length-take-le f.length (drop f.place image) (rw length-drop (omega (arith, next_within)))

  -- on the check's way
  module _ (M : Meaning) (key : List ℕ) (pad : ℕ) (v : View M) (w : Walked M key pad image v at) where
    later : ℕ → Field → List ℕ → Outcome
    later less g rest = check_from less M.code (w.before ++ (record_in g ∷ [])) rest (at + length (bytes_of g))

    step : (less : ℕ) × (length (drop (f.place + f.length) image) ≤ less) ×
        (check M.code image ≡ field_outcome M.code w.before at (later less) (Some (field f.tag value, drop (f.place + f.length) image)))
    unfolding value later
    step = go w.fuel w.enough w.same
      where
        go : (n : ℕ) → length (drop at image) ≤ n → check M.code image ≡ check_from n M.code w.before (drop at image) at →
            (less : ℕ) × (length (drop (f.place + f.length) image) ≤ less) ×
            (check M.code image ≡ field_outcome M.code w.before at (later less) (Some (field f.tag value, drop (f.place + f.length) image)))
        go zero l s = absurd (omega (arith, link.fits))
        go (suc n) l s = (n, rw length-drop (omega (arith, link.place, link.fits, length-drop at image)), s ∙ ap (field_outcome M.code w.before at (later n)) read_next)

    -- a record's field
    record_step : is_record (field f.tag value) ≡ true → (r : Record) → r ≡ record_in (field f.tag value) →
        (less : ℕ) × (length (drop (f.place + f.length) image) ≤ less) ×
        (check M.code image ≡ record_outcome at (check_from less M.code (w.before ++ (r ∷ [])) (drop (f.place + f.length) image) (f.place + f.length)) (first_fault w.before r))
    unfolding later
    record_step q r s =
        let st = step in
        let place : at + length (bytes_of (field f.tag value)) ≡ f.place + f.length = omega (arith, value_length, link.place) in
        (st.0, st.1, st.2 ∙ rw (q, place, s))

    -- the register refuses the record
    pub walk_refused : is_record (field f.tag (value_in image f)) ≡ true → (r : Record) → r ≡ record_in (field f.tag (value_in image f)) →
        (u : View M) (x : RecordFault) → refused (number_of_record_fault x) 0 ≡ reply M v r → Answers M key pad (check M.code image) (Err (FaultyRecord x, at)) u
    unfolding value
    walk_refused q r s u x h =
        let row = call_refused M key pad w.before r v w.stands (number_of_record_fault x) 0 h in
        let st = record_step q r s in
        subst (λ o. Answers M key pad o (Err (FaultyRecord x, at)) u) (sym (st.2 ∙ ap (record_outcome at _) row.1)) (row.2, refl)

    -- the register takes it
    pub walk_taken : is_record (field f.tag (value_in image f)) ≡ true → (r : Record) → r ≡ record_in (field f.tag (value_in image f)) →
        (u : View M) (n : ℕ) → taken n ≡ reply M v r → u ≡ after M v r → Walked M key pad image u (f.place + f.length)
    unfolding value
    walk_taken q r s u n h k =
        let t = call_taken M key pad w.before r v w.stands n u h k in
        let st = record_step q r s in
        record {
          fuel = st.0;
          before = w.before ++ (r ∷ []);
          stands = t.1;
          enough = st.1;
          same = st.2 ∙ ap (record_outcome at _) t.0;
        }

    -- a field that is no record's
    pub walk_seal : is_record (field f.tag (value_in image f)) ≡ false →
        Answers M key pad (check M.code image) (seal_field_answer (seal_in f.tag (value_in image f)) M.code at (f.place + f.length) (length image)) v
    unfolding value
    walk_seal q =
        subst (λ o. Answers M key pad o (seal_field_answer (seal_in f.tag value) M.code at (f.place + f.length) (length image)) v) (sym (step.2 ∙ rw q)) (go (is_seal (field f.tag value)) refl)
      where
        stop : ℕ
        stop = f.place + f.length

        go : (b : Bool) → is_seal (field f.tag value) ≡ b →
            Answers M key pad (cond b (seal_outcome M.code w.before at value (drop (f.place + f.length) image)) (faulty 40 at))
            (seal_field_answer (cond b (Some (get_or value 0 0, word (drop 1 value))) None) M.code at (f.place + f.length) (length image)) v
        go true h = at_end (drop stop image) refl
          where
            nine : f.length ≡ 9
            nine = sym value_length ∙ ((decides_seal f.tag value).0 h).1

            by_code : (b : Bool) →
                Answers M key pad (cond b (compares w.before (drop 1 value)) (faulty 41 at)) (cond {A = Result ℕ (ImageFault × ℕ)} b (Ok (word (drop 1 value))) (Err (Code, at))) v
            by_code true = (refl, w.stands)
            by_code false = (refl, refl)

            at_end : (rest : List ℕ) → drop stop image ≡ rest →
                Answers M key pad (seal_outcome M.code w.before at value rest)
                (cond (eqb stop (length image)) (cond {A = Result ℕ (ImageFault × ℕ)} (eqb (get_or value 0 0) M.code) (Ok (word (drop 1 value))) (Err (Code, at))) (Err (Framing, stop))) v
            at_end [] x =
                let n : stop ≡ length image = omega (arith, next_within, length-drop stop image, ap length x) in
                rw (eq-eqb stop (length image) n) (by_code (eqb (get_or value 0 0) M.code))
            at_end (b ∷ rest) x =
                let n : stop ≡ length image → ⊥ = omega (arith, length-drop stop image, ap length x) in
                rw (ne_eqb stop (length image) n) (refl, omega (arith, nine, link.place))
        go false h = (refl, refl)
