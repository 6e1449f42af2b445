-- An image's message, by its definition and by the function; and the message of an image of records.
use Rattle.std.proofs.Common.{◌≡◌, ℕ, zero, suc, ◌≤◌, Bool, true, false, cond, ◌⊎◌, ◌↔◌, List, [], ◌∷◌, ◌++◌, map, length, Some, None, Decides, Option, sym, refl, ap, ◌∙◌, subst, inl, inr, append_assoc, append-nil, arith, length-append}
use Rattle.std.specs.List.{AllByRecursion}
use Rattle.std.proofs.lemmas.Bool.Decides.{not_from_Decides}
use Rattle.hashes.specs.Word.{Bytes}
use Rattle.register.specs.Records.{Record, zone, point, rule, Field, field, bytes_of, field_of, message}
use Rattle.register.specs.Fields.{next_field, is_seal}
use Rattle.register.specs.Image.{seal_field, image}
use Rattle.register.specs.ImageMessage.{SealField, fields_bytes, BeforeSeal, MessageOf, everything, in_front, message_at, message_from, message_of}
use Rattle.register.proofs.Bytes.{bytes_right}
use Rattle.register.proofs.Encoding.{next_field_reads, field_read}
use Rattle.register.proofs.Images.{decides_seal, field_shorter}

decides_seal_field : (f : Field) → Decides (is_seal f) (SealField f)
decides_seal_field (field t v) = decides_seal t v

is_no_seal : (f : Field) → ¬ SealField f → is_seal f ≡ false
is_no_seal f n = go (is_seal f) refl
  where
    go : (b : Bool) → is_seal f ≡ b → b ≡ false
    go true e = absurd (n ((decides_seal_field f).0 e))
    go false e = refl

-- fields that are no seal fields, and then a seal field
walk : (fs : List Field) (s : Field) (rest : List ℕ) → AllByRecursion (λ f. ¬ SealField f) fs → SealField s →
    (fuel : ℕ) (bytes : List ℕ) → length bytes ≤ fuel → bytes ≡ fields_bytes fs ++ (bytes_of s ++ rest) → message_from fuel bytes ≡ fields_bytes fs
walk [] s rest h k zero bytes l e = absurd (let n = field_shorter bytes s rest e in omega arith)
walk [] s rest h k (suc fuel) bytes l e = rw (ap next_field e ∙ next_field_reads s rest, (decides_seal_field s).1 k)
walk (f ∷ fs) s rest h k zero bytes l e = absurd (let n = field_shorter bytes f _ (e ∙ append_assoc (bytes_of f) (fields_bytes fs) (bytes_of s ++ rest)) in omega arith)
walk (f ∷ fs) s rest h k (suc fuel) bytes l e =
    let left : List ℕ = fields_bytes fs ++ (bytes_of s ++ rest) in
    let begins : bytes ≡ bytes_of f ++ left = e ∙ append_assoc (bytes_of f) (fields_bytes fs) (bytes_of s ++ rest) in
    let n = field_shorter bytes f left begins in
    rw (ap next_field begins ∙ next_field_reads f left, is_no_seal f h.0, walk fs s rest h.1 k fuel left (omega arith) refl)

pub message_before : (image m : List ℕ) → BeforeSeal image m → message_of image ≡ m
message_before image m b = walk b.fields b.seal b.rest b.others b.is_one (length image) image (omega arith) b.split ∙ sym b.same

-- the walk finds a seal field, or goes to the end
walked : (fuel : ℕ) (bytes : List ℕ) → Bytes bytes → BeforeSeal bytes (message_from fuel bytes) ⊎ (message_from fuel bytes ≡ bytes)
walked zero bytes bs = inr refl
walked (suc fuel) bytes bs = go (walked fuel) (next_field bytes) refl
  where
    go : ((xs : List ℕ) → Bytes xs → BeforeSeal xs (message_from fuel xs) ⊎ (message_from fuel xs ≡ xs)) → (o : Option (Field × List ℕ)) → next_field bytes ≡ o →
        BeforeSeal bytes (message_at bytes (message_from fuel) o) ⊎ (message_at bytes (message_from fuel) o ≡ bytes)
    go below None e = inr refl
    go below (Some p) e = at (is_seal f) refl
      where
        f : Field
        f = p.0

        whole : bytes ≡ bytes_of f ++ p.1
        whole = field_read bytes f p.1 bs e

        past : is_seal f ≡ false → BeforeSeal p.1 (message_from fuel p.1) ⊎ (message_from fuel p.1 ≡ p.1) →
            BeforeSeal bytes (bytes_of f ++ message_from fuel p.1) ⊎ (bytes_of f ++ message_from fuel p.1 ≡ bytes)
        past q (inl h) = inl (record {
          fields = f ∷ h.fields;
          others = (not_from_Decides (is_seal f) (decides_seal_field f) q, h.others);
          seal = h.seal;
          is_one = h.is_one;
          rest = h.rest;
          split = whole ∙ ap (λ x. bytes_of f ++ x) h.split ∙ sym (append_assoc (bytes_of f) (fields_bytes h.fields) (bytes_of h.seal ++ h.rest));
          same = ap (λ x. bytes_of f ++ x) h.same;
        })
        past q (inr h) = inr (ap (λ x. bytes_of f ++ x) h ∙ sym whole)

        at : (b : Bool) → is_seal f ≡ b → BeforeSeal bytes (cond b [] (bytes_of f ++ message_from fuel p.1)) ⊎ (cond b [] (bytes_of f ++ message_from fuel p.1) ≡ bytes)
        at true q = inl (record { fields = []; others = tt; seal = f; is_one = (decides_seal_field f).0 q; rest = p.1; split = whole; same = refl })
        at false q = past q (below p.1 (bytes_right (bytes_of f) p.1 (subst Bytes whole bs)))

-- an image that is all message has no seal field
no_seal_field : (image m : List ℕ) → BeforeSeal image m → message_of image ≡ image → ⊥
no_seal_field image m b e = longer b.seal (ap length (sym e ∙ message_before image m b ∙ b.same) ∙ refl) (ap length b.split)
  where
    longer : (seal : Field) → length image ≡ length (fields_bytes b.fields) → length image ≡ length (fields_bytes b.fields ++ (bytes_of seal ++ b.rest)) → ⊥
    longer (field tag value) short long = omega (arith, short, long, length-append (fields_bytes b.fields) (bytes_of (field tag value) ++ b.rest))

pub message_agrees : (image m : List ℕ) → Bytes image → (message_of image ≡ m) ↔ MessageOf image m
message_agrees image m bs = (λ e. subst (MessageOf image) e (found (walked (length image) image bs)), only m)
  where
    found : BeforeSeal image (message_of image) ⊎ (message_of image ≡ image) → MessageOf image (message_of image)
    found (inl b) = in_front b
    found (inr e) = subst (MessageOf image) (sym e) (everything (λ n b. no_seal_field image n b e))

    whole : ((n : List ℕ) → ¬ BeforeSeal image n) → BeforeSeal image (message_of image) ⊎ (message_of image ≡ image) → message_of image ≡ image
    whole none (inl b) = absurd (none (message_of image) b)
    whole none (inr e) = e

    only : (n : List ℕ) → MessageOf image n → message_of image ≡ n
    only n (in_front b) = message_before image n b
    only _ (everything none) = whole none (walked (length image) image bs)

-- the fields of records are no seal fields
record_field : (r : Record) → ¬ SealField (field_of r)
record_field (zone n name) h = omega (arith, h.0)
record_field (point n z k) h = omega (arith, h.0)
record_field (rule z p) h = omega (arith, h.0)

record_fields : (rs : List Record) → AllByRecursion (λ f. ¬ SealField f) (map field_of rs)
record_fields [] = tt
record_fields (r ∷ rs) = (record_field r, record_fields rs)

message_fields : (rs : List Record) → message rs ≡ fields_bytes (map field_of rs)
message_fields [] = refl
message_fields (r ∷ rs) = ap (λ m. bytes_of (field_of r) ++ m) (message_fields rs)

-- the message of an image of records is theirs
pub message_of_image : (rs : List Record) (code : ℕ) (seal : List ℕ) → length seal ≡ 8 → message_of (image rs code seal) ≡ message rs
message_of_image rs code seal e =
    message_before (image rs code seal) (message rs)
    (record {
      fields = map field_of rs;
      others = record_fields rs;
      seal = seal_field code seal;
      is_one = (refl, omega arith);
      rest = [];
      split = ap (λ m. m ++ bytes_of (seal_field code seal)) (message_fields rs) ∙ ap (λ x. fields_bytes (map field_of rs) ++ x) (sym (append-nil (bytes_of (seal_field code seal))));
      same = message_fields rs;
    })
