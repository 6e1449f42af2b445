-- The check of an image: the function and the relation agree, and what passes its framing.
use Rattle.std.proofs.Common.{◌≡◌, ℕ, zero, suc, ◌+◌, ◌*◌, ◌<◌, ◌≤◌, Bool, true, false, cond, ◌&&◌, ◌||◌, eqb, leb, ◌≢◌, ◌⊎◌, ◌↔◌, List, [], ◌∷◌, ◌++◌, length, take, drop, Some, None, Decides, Option, sym, refl, ap, ◌∙◌, subst, ap₂, inl, inr, true≢false, append_assoc, append-nil, arith, length-append, length-take-le}
use mathlib.Core.List.{cons≢nil}
use Rattle.std.proofs.lemmas.Bool.Decides.{Decides-and, Decides-eqb, not_from_Decides}
use Rattle.hashes.specs.Word.{Bytes}
use Rattle.register.specs.declared.fault.RecordFault.{RecordFault}
use Rattle.register.specs.Records.{Record, Field, field, bytes_of, field_of, message}
use Rattle.register.specs.Fields.{is_record_length, is_record, record_in, next_field, is_seal}
use Rattle.register.specs.Known.{first_fault}
use Rattle.register.specs.Book.{TakenAfter, BookRecords}
use Rattle.register.specs.Image.{seal_field, image, BeginsRecord, BeginsSeal, Unframed, Outcome, compares, faulty, Checks, unframed, refuses, takes, trailing, other_code, ends, value_of, seal_outcome, record_outcome, field_outcome, check_from, check, FramingFault, is_known_length}
use Rattle.register.proofs.Bytes.{bytes_left, bytes_right}
use Rattle.register.proofs.Encoding.{next_field_reads, field_read, record_read, field_is_record, record_of_field}
use Rattle.register.proofs.Firsts.{None_Some, Some_inj}
use Rattle.register.proofs.Rows.{first_fault_iff, accepted_iff}

pub decides_seal : (t : ℕ) (v : List ℕ) → Decides (is_seal (field t v)) ((t ≡ 0x53) × (length v ≡ 9))
decides_seal t v = Decides-and _ _ (Decides-eqb t 0x53) (Decides-eqb (length v) 9)

-- what reading finds, where the bytes begin with a field
reads_record : (bytes : List ℕ) (r : Record) (rest : List ℕ) → BeginsRecord bytes r rest → next_field bytes ≡ Some (field_of r, rest)
reads_record bytes r rest e = rw e (next_field_reads (field_of r) rest)

reads_seal : (bytes : List ℕ) (c : ℕ) (seal rest : List ℕ) → BeginsSeal bytes c seal rest → next_field bytes ≡ Some (seal_field c seal, rest)
reads_seal bytes c seal rest h = rw h.1 (next_field_reads (seal_field c seal) rest)

seal_is_seal : (c : ℕ) (seal : List ℕ) → length seal ≡ 8 → is_seal (seal_field c seal) ≡ true
seal_is_seal c seal h = (decides_seal 0x53 (c ∷ seal)).1 (refl, omega arith)

no_field : (bytes : List ℕ) → next_field bytes ≡ None → Unframed bytes
no_field bytes e = record {
  not_record = λ r rest h. None_Some (sym e ∙ reads_record bytes r rest h);
  not_seal = λ c seal rest h. None_Some (sym e ∙ reads_seal bytes c seal rest h);
}

other_field : (bytes : List ℕ) (f : Field) (rest : List ℕ) → next_field bytes ≡ Some (f, rest) → is_record f ≡ false → is_seal f ≡ false → Unframed bytes
other_field bytes f rest e p q = record {
  not_record = λ r rest' h.
      let same = Some_inj (sym e ∙ reads_record bytes r rest' h) in
      true≢false (sym (field_is_record r) ∙ ap (λ x. is_record x.0) (sym same) ∙ p);
  not_seal = λ c seal rest' h.
      let same = Some_inj (sym e ∙ reads_seal bytes c seal rest' h) in
      true≢false (sym (seal_is_seal c seal h.0) ∙ ap (λ x. is_seal x.0) (sym same) ∙ q);
}

-- a field is shorter than the bytes that it begins
pub field_shorter : (bytes : List ℕ) (f : Field) (rest : List ℕ) → bytes ≡ bytes_of f ++ rest → length rest < length bytes
field_shorter bytes (field t v) rest e = omega (arith, simp length-append at (ap length e))

-- unframed bytes begin with no record's field and no seal field
not_record : (bytes : List ℕ) (f : Field) (rest : List ℕ) → Bytes bytes → bytes ≡ bytes_of f ++ rest → Unframed bytes → is_record f ≡ true → ⊥
not_record bytes f rest bs e u q =
    u.not_record (record_in f) rest (e ∙ ap (λ x. bytes_of x ++ rest) (sym (record_read f (bytes_left (bytes_of f) rest (subst Bytes e bs)) q)))

no_seal_begins : (bytes : List ℕ) (f : Field) (rest : List ℕ) → bytes ≡ bytes_of f ++ rest → Unframed bytes → is_seal f ≡ true → ⊥
no_seal_begins bytes (field t []) rest e u q = let h = (decides_seal t []).0 q in omega arith
no_seal_begins bytes (field t (c ∷ seal)) rest e u q =
    let h = (decides_seal t (c ∷ seal)).0 q in
    u.not_seal c seal rest (omega (arith, h.1), e ∙ ap (λ x. bytes_of (field x (c ∷ seal)) ++ rest) h.0)

module _ (code : ℕ) where
  -- at a seal field
  seal_checks : (before : List Record) (bytes : List ℕ) (offset t : ℕ) (v rest : List ℕ) → bytes ≡ bytes_of (field t v) ++ rest → is_seal (field t v) ≡ true →
      Checks code before bytes offset (seal_outcome code before offset v rest)
  seal_checks before bytes offset t [] rest e q = absurd (let h = (decides_seal t []).0 q in omega arith)
  seal_checks before bytes offset t (c ∷ seal) (b ∷ rest) e q =
      let h = (decides_seal t (c ∷ seal)).0 q in
      trailing c seal (b ∷ rest) (omega arith, e ∙ ap (λ x. bytes_of (field x (c ∷ seal)) ++ (b ∷ rest)) h.0) (λ z. cons≢nil z)
  seal_checks before bytes offset t (c ∷ seal) [] e q = go (eqb c code) refl
    where
      h : (t ≡ 0x53) × (length (c ∷ seal) ≡ 9)
      h = (decides_seal t (c ∷ seal)).0 q

      begins : BeginsSeal bytes c seal []
      begins = (omega (arith, h.1), e ∙ ap (λ x. bytes_of (field x (c ∷ seal)) ++ []) h.0)

      go : (b : Bool) → eqb c code ≡ b → Checks code before bytes offset (cond b (compares before seal) (faulty 41 offset))
      go true k = ends seal (rw ((Decides-eqb c code).0 k) at begins)
      go false k = other_code c seal begins (not_from_Decides (eqb c code) (Decides-eqb c code) k)

  seal_field_checks : (before : List Record) (bytes : List ℕ) (offset : ℕ) (f : Field) (rest : List ℕ) → bytes ≡ bytes_of f ++ rest → is_seal f ≡ true →
      Checks code before bytes offset (seal_outcome code before offset (value_of f) rest)
  seal_field_checks before bytes offset (field t v) rest e q = seal_checks before bytes offset t v rest e q

  -- at any field
  field_checks : (before : List Record) (bytes : List ℕ) (offset : ℕ) (f : Field) (rest : List ℕ) (later : Field → List ℕ → Outcome) →
      Bytes bytes → next_field bytes ≡ Some (f, rest) →
      Checks code (before ++ (record_in f ∷ [])) rest (offset + length (bytes_of f)) (later f rest) →
      Checks code before bytes offset (field_outcome code before offset later (Some (f, rest)))
  field_checks before bytes offset f rest later bs e below = at_record (is_record f) refl
    where
      whole : bytes ≡ bytes_of f ++ rest
      whole = field_read bytes f rest bs e

      r : Record
      r = record_in f

      at_seal : (b : Bool) → is_record f ≡ false → is_seal f ≡ b →
          Checks code before bytes offset (cond b (seal_outcome code before offset (value_of f) rest) (faulty 40 offset))
      at_seal true p q = seal_field_checks before bytes offset f rest whole q
      at_seal false p q = unframed (other_field bytes f rest e p q)

      same : is_record f ≡ true → field_of r ≡ f
      same p = record_read f (bytes_left (bytes_of f) rest (subst Bytes whole bs)) p

      begins : is_record f ≡ true → BeginsRecord bytes r rest
      begins p = whole ∙ ap (λ x. bytes_of x ++ rest) (sym (same p))

      at_fault : is_record f ≡ true → (o : Option RecordFault) → first_fault before r ≡ o → Checks code before bytes offset (record_outcome offset (later f rest) o)
      at_fault p None q =
          takes r rest (begins p) ((accepted_iff before r).0 q)
          (subst (λ x. Checks code (before ++ (r ∷ [])) rest (offset + length (bytes_of x)) (later f rest)) (sym (same p)) below)
      at_fault p (Some x) q = refuses r rest (begins p) ((first_fault_iff before r x).0 q)

      at_record : (b : Bool) → is_record f ≡ b →
          Checks code before bytes offset (cond b (record_outcome offset (later f rest) (first_fault before r)) (cond (is_seal f) (seal_outcome code before offset (value_of f) rest) (faulty 40 offset)))
      at_record true p = at_fault p (first_fault before r) refl
      at_record false p = at_seal (is_seal f) p refl

  -- the function comes to what the check comes to
  pub check_is : (fuel : ℕ) (before : List Record) (bytes : List ℕ) (offset : ℕ) → length bytes ≤ fuel → Bytes bytes →
      Checks code before bytes offset (check_from fuel code before bytes offset)
  check_is zero before [] offset l bs = unframed (no_field [] refl)
  check_is zero before (b ∷ bytes) offset l bs = absurd (omega arith)
  check_is (suc fuel) before bytes offset l bs = go (check_is fuel) (next_field bytes) refl
    where
      later : Field → List ℕ → Outcome
      later f rest = check_from fuel code (before ++ (record_in f ∷ [])) rest (offset + length (bytes_of f))

      go : ((t : List Record) (b : List ℕ) (o : ℕ) → length b ≤ fuel → Bytes b → Checks code t b o (check_from fuel code t b o)) →
          (o : Option (Field × List ℕ)) → next_field bytes ≡ o → Checks code before bytes offset (field_outcome code before offset later o)
      go below None e = unframed (no_field bytes e)
      go below (Some p) e =
          let f = p.0 in
          let rest = p.1 in
          let whole = field_read bytes f rest bs e in
          let less = field_shorter bytes f rest whole in
          field_checks before bytes offset f rest later bs e
          (below (before ++ (record_in f ∷ [])) rest (offset + length (bytes_of f)) (omega arith) (bytes_right (bytes_of f) rest (subst Bytes whole bs)))

  record_step : (fuel : ℕ) (before : List Record) (bytes : List ℕ) (offset : ℕ) (r : Record) (rest : List ℕ) → length bytes ≤ fuel → BeginsRecord bytes r rest →
      (less : ℕ) × (length rest ≤ less) ×
      (check_from fuel code before bytes offset ≡ record_outcome offset (check_from less code (before ++ (r ∷ [])) rest (offset + length (bytes_of (field_of r)))) (first_fault before r))
  record_step zero before bytes offset r rest l e = absurd (let s = field_shorter bytes (field_of r) rest e in omega arith)
  record_step (suc fuel) before bytes offset r rest l e =
      let s = field_shorter bytes (field_of r) rest e in
      (fuel, omega arith, rw (reads_record bytes r rest e, field_is_record r, record_of_field r))

  seal_step : (fuel : ℕ) (before : List Record) (bytes : List ℕ) (offset c : ℕ) (seal rest : List ℕ) → length bytes ≤ fuel → BeginsSeal bytes c seal rest →
      check_from fuel code before bytes offset ≡ seal_outcome code before offset (c ∷ seal) rest
  seal_step zero before bytes offset c seal rest l e = absurd (let s = field_shorter bytes (seal_field c seal) rest e.1 in omega arith)
  seal_step (suc fuel) before bytes offset c seal rest l e = rw (reads_seal bytes c seal rest e, seal_is_seal c seal e.0)

  unframed_step : (fuel : ℕ) (before : List Record) (bytes : List ℕ) (offset : ℕ) → Bytes bytes → Unframed bytes → check_from fuel code before bytes offset ≡ faulty 40 offset
  unframed_step zero before bytes offset bs u = refl
  unframed_step (suc fuel) before bytes offset bs u = go (next_field bytes) refl
    where
      later : Field → List ℕ → Outcome
      later f rest = check_from fuel code (before ++ (record_in f ∷ [])) rest (offset + length (bytes_of f))

      go : (o : Option (Field × List ℕ)) → next_field bytes ≡ o → field_outcome code before offset later o ≡ faulty 40 offset
      go None e = refl
      go (Some p) e = at (is_record p.0) (is_seal p.0) refl refl
        where
          f : Field
          f = p.0

          whole : bytes ≡ bytes_of f ++ p.1
          whole = field_read bytes f p.1 bs e

          at : (b d : Bool) → is_record f ≡ b → is_seal f ≡ d →
              cond b (record_outcome offset (later f p.1) (first_fault before (record_in f))) (cond d (seal_outcome code before offset (value_of f) p.1) (faulty 40 offset)) ≡ faulty 40 offset
          at true d q s = absurd (not_record bytes f p.1 bs whole u q)
          at false true q s = absurd (no_seal_begins bytes f p.1 whole u s)
          at false false q s = refl

  -- the check comes to one outcome, the function's
  pub check_only : (fuel : ℕ) (before : List Record) (bytes : List ℕ) (offset : ℕ) (o : Outcome) → length bytes ≤ fuel → Bytes bytes →
      Checks code before bytes offset o → check_from fuel code before bytes offset ≡ o
  check_only fuel before bytes offset o l bs (unframed u) = unframed_step fuel before bytes offset bs u
  check_only fuel before bytes offset o l bs (refuses {f = f} r rest e h) =
      let s = record_step fuel before bytes offset r rest l e in
      s.2 ∙ ap (record_outcome offset _) ((first_fault_iff before r f).1 h)
  check_only fuel before bytes offset o l bs (takes r rest e h below) =
      let s = record_step fuel before bytes offset r rest l e in
      s.2 ∙ ap (record_outcome offset _) ((accepted_iff before r).1 h) ∙
      check_only s.0 (before ++ (r ∷ [])) rest _ o s.1 (bytes_right (bytes_of (field_of r)) rest (subst Bytes e bs)) below
  check_only fuel before bytes offset o l bs (trailing c seal rest e n) = seal_step fuel before bytes offset c seal rest l e ∙ more rest n
    where
      more : (xs : List ℕ) → xs ≢ [] → seal_outcome code before offset (c ∷ seal) xs ≡ faulty 40 (offset + 12)
      more [] m = absurd (m refl)
      more (x ∷ xs) m = refl
  check_only fuel before bytes offset o l bs (other_code c seal e n) =
      let d : eqb c code ≡ false = grind arith in
      seal_step fuel before bytes offset c seal [] l e ∙ rw d
  check_only fuel before bytes offset o l bs (ends seal e) =
      seal_step fuel before bytes offset code seal [] l e ∙ rw ((Decides-eqb code code).1 refl)

  -- what the check compares: the records of a book and the seal of their image
  pub compares_image : (before : List Record) (bytes : List ℕ) (offset : ℕ) (rs : List Record) (seal : List ℕ) → Checks code before bytes offset (compares rs seal) →
      (more : List Record) × (rs ≡ before ++ more) × TakenAfter before more × (length seal ≡ 8) × (bytes ≡ image more code seal)
  compares_image before bytes offset rs seal (takes r rest e h below) =
      let m = compares_image (before ++ (r ∷ [])) rest _ rs seal below in (
        r ∷ m.0,
        m.1 ∙ append_assoc before (r ∷ []) m.0,
        (h, m.2),
        m.3,
        e ∙ ap (λ x. bytes_of (field_of r) ++ x) m.4 ∙ sym (append_assoc (bytes_of (field_of r)) (message m.0) (bytes_of (seal_field code seal))),
      )
  compares_image before bytes offset rs seal (ends s e) =
      ([], sym (append-nil before), tt, e.0, e.1 ∙ append-nil (bytes_of (seal_field code seal)))

  pub image_compares : (before more : List Record) (seal : List ℕ) (offset : ℕ) → TakenAfter before more → length seal ≡ 8 →
      Checks code before (image more code seal) offset (compares (before ++ more) seal)
  image_compares before [] seal offset h l =
      subst (λ t. Checks code before (bytes_of (seal_field code seal)) offset (compares t seal)) (sym (append-nil before))
      (ends seal (l, sym (append-nil (bytes_of (seal_field code seal)))))
  image_compares before (r ∷ more) seal offset h l =
      takes r (image more code seal) (append_assoc (bytes_of (field_of r)) (message more) (bytes_of (seal_field code seal))) h.0
      (subst (λ t. Checks code (before ++ (r ∷ [])) (image more code seal) (offset + length (bytes_of (field_of r))) (compares t seal)) (append_assoc before (r ∷ []) more)
      (image_compares (before ++ (r ∷ [])) more seal _ h.1 l))

  -- the check gets to comparing seals exactly at the images of books
  pub check_compares : (bytes : List ℕ) → Bytes bytes → (rs : List Record) (seal : List ℕ) →
      (check code bytes ≡ compares rs seal) ↔ (BookRecords rs × (length seal ≡ 8) × (bytes ≡ image rs code seal))
  check_compares bytes bs rs seal = (to, from)
    where
      to : check code bytes ≡ compares rs seal → BookRecords rs × (length seal ≡ 8) × (bytes ≡ image rs code seal)
      to e =
          let c : Checks code [] bytes 0 (compares rs seal) = rw e at (check_is (length bytes) [] bytes 0 (omega arith) bs) in
          let m = compares_image [] bytes 0 rs seal c in
          (rw m.1 m.2, m.3, rw m.1 m.4)

      from : BookRecords rs × (length seal ≡ 8) × (bytes ≡ image rs code seal) → check code bytes ≡ compares rs seal
      from h =
          check_only (length bytes) [] bytes 0 (compares rs seal) (omega arith) bs
          (subst (λ b. Checks code [] b 0 (compares rs seal)) (sym h.2) (image_compares [] rs seal 0 h.0 h.1))

-- an image tells its records and its seal
pub one_book : (code : ℕ) (bytes : List ℕ) → Bytes bytes → (rs ss : List Record) (s t : List ℕ) → BookRecords rs → BookRecords ss → length s ≡ 8 → length t ≡ 8 →
    bytes ≡ image rs code s → bytes ≡ image ss code t → (rs ≡ ss) × (s ≡ t)
one_book code bytes bs rs ss s t b d ls lt e f =
    let x = (check_compares code bytes bs rs s).1 (b, ls, e) in
    let y = (check_compares code bytes bs ss t).1 (d, lt, f) in
    let same : compares rs s ≡ compares ss t = sym x ∙ y in
    (cc, cc)

-- the two ways to say that no field begins the bytes
framing : (bytes : List ℕ) → Bytes bytes → (Unframed bytes × FramingFault bytes) ⊎ ((Unframed bytes → ⊥) × (FramingFault bytes → ⊥))
framing [] bs = inl (no_field [] refl, inl (omega arith))
framing (t ∷ []) bs = inl (no_field (t ∷ []) refl, inl (omega arith))
framing (t ∷ h ∷ []) bs = inl (no_field (t ∷ h ∷ []) refl, inl (omega arith))
framing (t ∷ h ∷ l ∷ rest) bs = go (leb n (length rest)) refl
  where
    n : ℕ
    n = h * 256 + l

    all : List ℕ
    all = t ∷ h ∷ l ∷ rest

    f : Field
    f = field t (take n rest)

    read : leb n (length rest) ≡ true → next_field all ≡ Some (f, drop n rest)
    read q = rw q

    len : leb n (length rest) ≡ true → length (take n rest) ≡ n
    len q = length-take-le n rest (grind arith)

    known : (b d : Bool) → leb n (length rest) ≡ true → is_record f ≡ b → is_seal f ≡ d → is_known_length t n ≡ b || d
    known b d q x y = ap₂ ◌||◌ (ap (is_record_length t) (sym (len q)) ∙ x) (ap (λ k. eqb t 0x53 && eqb k 9) (sym (len q)) ∙ y)

    framed : leb n (length rest) ≡ true → is_known_length t n ≡ true → FramingFault all → ⊥
    framed q k (inl x) = omega arith
    framed q k (inr (inl x)) = let y : n ≤ length rest = grind arith in omega arith
    framed q k (inr (inr x)) = true≢false (sym k ∙ x)

    at : (b d : Bool) → leb n (length rest) ≡ true → is_record f ≡ b → is_seal f ≡ d → (Unframed all × FramingFault all) ⊎ ((Unframed all → ⊥) × (FramingFault all → ⊥))
    at true d q x y = inr (λ u. not_record all f (drop n rest) bs (field_read all f (drop n rest) bs (read q)) u x, framed q (known true d q x y))
    at false true q x y = inr (λ u. no_seal_begins all f (drop n rest) (field_read all f (drop n rest) bs (read q)) u y, framed q (known false true q x y))
    at false false q x y = inl (other_field all f (drop n rest) (read q) x y, inr (inr (known false false q x y)))

    go : (b : Bool) → leb n (length rest) ≡ b → (Unframed all × FramingFault all) ⊎ ((Unframed all → ⊥) × (FramingFault all → ⊥))
    go true q = at (is_record f) (is_seal f) q refl refl
    go false q = inl (no_field all (rw q), inr (inl (let y : length rest < n = grind arith in omega arith)))

pub unframed_iff : (bytes : List ℕ) → Bytes bytes → Unframed bytes ↔ FramingFault bytes
unframed_iff bytes bs = go (framing bytes bs)
  where
    go : (Unframed bytes × FramingFault bytes) ⊎ ((Unframed bytes → ⊥) × (FramingFault bytes → ⊥)) → Unframed bytes ↔ FramingFault bytes
    go (inl h) = (λ _. h.1, λ _. h.0)
    go (inr h) = (λ u. absurd (h.0 u), λ f. absurd (h.1 f))
