-- From the lines of a text to its image.
use Rattle.std.proofs.Common.{◌≡◌, ℕ, ◌+◌, ◌-◌, ◌<◌, ◌≤◌, Bool, true, false, cond, if◌then◌else◌, leb, List, [], ◌++◌, length, take, replicate, Ok, Err, Result, sym, refl, ap, ◌∙◌, ap₂, arith, length-append}
use Rattle.std.proofs.lemmas.List.{take_at}
use Rattle.std.specs.Int.{bytes_high_first}
use Rattle.std.proofs.lemmas.Bool.{le-leb, leb-false, leb-true, lt-leb}
use Rattle.hashes.specs.Family.{Meaning}
use Rattle.register.specs.Facts.{RegisterFacts}
use Rattle.register.specs.Image.{seal_field}
use Rattle.register.specs.Records.{Record, bytes_of, message}
use Rattle.register.specs.View.{View, key_of, opening, pad_of, sealed}
use Rattle.register.specs.Writing.{Holds, filled_up, put}
use Rattle.line_reader.specs.declared.fault.MakeFault.{MakeFault}
use Rattle.line_reader.specs.declared.fault.MakeFault.TheVariants.{Room}
use Rattle.line_reader.specs.Making.{Making, all_taken, Sent, stopped, made, made_by, making, sealed_image, sent, unmade}
use Rattle.line_reader.specs.Sending.{RefusedText, TextSent, by_buffer, by_line, wiped}
use Rattle.line_reader.specs.Texts.{lines_of}

-- of a buffer that opens
pub opened_made : (M : Meaning) (buffer text : List ℕ) (room : ℕ) (v : View M) (s : Sent) → Ok v ≡ opening M buffer → sent [] (lines_of text) 1 ≡ s
    → made M buffer text room ≡ making M (key_of M buffer) (pad_of M buffer) room s
opened_made M buffer text room v s o e =
    ap (made_by M buffer text room) (sym o) ∙ ap (making M (key_of M buffer) (pad_of M buffer) room) e

-- 50, and zeros
abbrev no_room : ℕ → Making
no_room room = unmade room 50 0 0

-- an image's length, and an output
abbrev done : ℕ → List ℕ → Making
done n out = (Ok n, out)

module _ (M : Meaning) (k : List ℕ) (pad room : ℕ) (rs : List Record) where
  -- the seal field has twelve bytes
  pub image_length : length (sealed_image M k pad rs) ≡ length (message rs) + 12
  image_length = length-append (message rs) (bytes_of (seal_field M.code (bytes_high_first 8 (sealed M k pad rs))))

  -- the choice by the room
  abbrev by_room : Bool → Making
  by_room b = cond b (Ok (length (sealed_image M k pad rs)), filled_up room (sealed_image M k pad rs)) (unmade room 50 0 0)

  -- what making then comes to
  pub making_full : room < length (message rs) + 12 → making M k pad room (all_taken rs) ≡ unmade room 50 0 0
  making_full h = ap by_room (lt-leb (length (sealed_image M k pad rs)) room (omega (arith, h, image_length)))

  pub making_whole : length (sealed_image M k pad rs) ≤ room
      → making M k pad room (all_taken rs)
      ≡ (Ok (length (sealed_image M k pad rs)), filled_up room (sealed_image M k pad rs))
  making_whole h = ap by_room (le-leb (length (sealed_image M k pad rs)) room h)

  -- the seal field put behind the message
  pub making_fits : RegisterFacts M → (out later : List ℕ) → Holds room rs out
      → length (message rs) + 12 ≤ room
      → later ≡ put out (length (message rs)) (bytes_of (seal_field M.code (bytes_high_first 8 (sealed M k pad rs))))
      → (Ok (length (message rs) + 12), later) ≡ making M k pad room (all_taken rs)
  making_fits facts out later holds h e =
      ap₂ done (sym image_length)
      (e ∙ facts.put_more room (message rs)
      (bytes_of (seal_field M.code (bytes_high_first 8 (sealed M k pad rs)))) out
      (omega (arith, h, image_length)) (holds (omega arith)))
      ∙ sym (making_whole (omega (arith, h, image_length)))

same_length : (m n : ℕ) → ◌≡◌ {A = Result ℕ (ℕ × (ℕ × ℕ))} (Ok m) (Ok n) → m ≡ n
same_length m n e = cc

pub not_made : {P : Type 0} (n : ℕ) (e : ℕ × (ℕ × ℕ)) → ◌≡◌ {A = Result ℕ (ℕ × (ℕ × ℕ))} (Err e) (Ok n) → P
not_made n e q = let z : ◌≡◌ {A = ℕ} 0 1 = cc in absurd (omega arith)

-- bytes behind which an output is zeros
filled_front : (room : ℕ) (a b : List ℕ) → length a ≡ length b → filled_up room a
    ≡ filled_up room b → a ≡ b
filled_front room a b n e =
    sym (take_at a (replicate (room - length a) 0) (length a) refl) ∙ ap (take (length a)) e
    ∙ take_at b (replicate (room - length b) 0) (length a) (sym n)

-- what is made is the image that an output holds
pub making_is : (M : Meaning) (k : List ℕ) (pad room : ℕ) (rs : List Record) (bytes : List ℕ)
    → making M k pad room (all_taken rs) ≡ (Ok (length bytes), filled_up room bytes) → bytes
    ≡ sealed_image M k pad rs
making_is M k pad room rs bytes = go (leb (length (sealed_image M k pad rs)) room)
  where
    go : (b : Bool) → by_room M k pad room rs b ≡ (Ok (length bytes), filled_up room bytes) → bytes
        ≡ sealed_image M k pad rs
    go true e =
        sym (filled_front room (sealed_image M k pad rs) bytes
        (same_length _ _ (ap (λ (m : Making). m.0) e)) (ap (λ (m : Making). m.1) e))
    go false e = not_made _ _ (ap (λ (m : Making). m.0) e)

-- ---- by what sending a text answers

-- it is refused
pub making_refused : (M : Meaning) (buffer text : List ℕ) (room n : ℕ) (place : ℕ × ℕ)
    → RefusedText M buffer text n place
    → made M buffer text room ≡ (Err (n, place), replicate room 0)
making_refused M buffer text room n _ (by_buffer e) = ap (made_by M buffer text room) e
making_refused M buffer text room n place (by_line o s) =
    opened_made M buffer text room _ (stopped n place.0 place.1) o s

module _ (M : Meaning) (buffer text out : List ℕ) (room n seal : ℕ)
    (t : TextSent M buffer text (Ok (n, seal)) room out) where
  long : n ≡ length (message t.2)
  long = ap (λ (a : ℕ × ℕ). a.0) t.4

  -- there is no room for the image
  pub making_no_room : room < n + 12 → made M buffer text room ≡ unmade room 50 0 0
  making_no_room h =
      opened_made M buffer text room t.0 (all_taken t.2) t.1 t.3
      ∙ making_full M (key_of M buffer) (pad_of M buffer) room t.2 (omega (arith, h, long))

  -- the seal field is put behind the message
  pub making_done : RegisterFacts M → (later : List ℕ) → n + 12 ≤ room → later
      ≡ put out n (bytes_of (seal_field M.code (bytes_high_first 8 seal)))
      → made M buffer text room ≡ (Ok (n + 12), later)
  making_done facts later h e =
      opened_made M buffer text room t.0 (all_taken t.2) t.1 t.3
      ∙ sym (
      making_fits M (key_of M buffer) (pad_of M buffer) room t.2 facts out later t.5
      (omega (arith, h, long))
      (e ∙ ap (λ (a : ℕ × ℕ).
      put out a.0 (bytes_of (seal_field M.code (bytes_high_first 8 a.1)))) t.4)
      )
      ∙ ap (λ (k : ℕ). done (k + 12) later) (sym long)

  -- whichever of the two it is
  pub making_put : RegisterFacts M → (r : Result ℕ MakeFault) (later : List ℕ)
      → length out ≡ room → length later ≡ room
      → r ≡ (if leb (n + 12) (length out) then Ok (n + 12) else Err Room)
      → later ≡ put out n (bytes_of (seal_field M.code (bytes_high_first 8 seal)))
      → wiped r later ≡ made M buffer text room
  making_put facts r later kept left e writes =
      ap (λ (x : Result ℕ MakeFault). wiped x later) e ∙ go (leb (n + 12) (length out)) refl
    where
      go : (b : Bool) → leb (n + 12) (length out) ≡ b
          → wiped (if b then Ok (n + 12) else Err Room) later ≡ made M buffer text room
      go true q = sym (making_done facts later (omega (arith, leb-true _ _ q, kept)) writes)
      go false q = ap no_room left ∙ sym (making_no_room (omega (arith, leb-false _ _ q, kept)))
