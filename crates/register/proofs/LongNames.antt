-- A name that is too long: the book need not see all of it.
use Rattle.std.proofs.Common.{◌≡◌, ℕ, ◌+◌, ◌<◌, ◌≤◌, Bool, true, false, cond, not, ◌⊎◌, List, length, take, Some, Option, sym, refl, ap, ◌∙◌, inl, inr, arith, length-take, take_all}
use Rattle.std.proofs.lemmas.Bool.{cases_lt}
use Rattle.hashes.specs.Family.{Meaning}
use Rattle.register.specs.declared.fault.RecordFault.{RecordFault}
use Rattle.register.specs.declared.fault.RecordFault.TheVariants.{Range, Name}
use Rattle.register.specs.Records.{zone}
use Rattle.register.specs.Book.{last_zone, longest_name}
use Rattle.register.specs.Known.{Known, within, zone_name, first_fault_by}
use Rattle.register.specs.View.{View, reply, reply_by, after, after_by}
use Rattle.register.specs.Writing.{output_after, output_by}

-- a name of more bytes than a name may have is none
long_fails : (name : List ℕ) → longest_name < length name → zone_name name ≡ false
long_fails name l = let f : within 1 longest_name (length name) ≡ false = grind arith in rw f

-- the row of a zone with such a name: its number decides
long_row : (known : Known) (n : ℕ) (name : List ℕ) → longest_name < length name
    → first_fault_by known (zone n name)
    ≡ cond (not (within 1 last_zone n)) (Some Range) (Some Name)
long_row known n name l = rw (long_fails name l)

module _ {A : Type 0} (by : List ℕ → Option RecordFault → A) (refuses : (xs ys : List ℕ) (f : RecordFault) → by xs (Some f) ≡ by ys (Some f)) where
  -- where some row refuses, the name itself does not matter
  any_name : (xs ys : List ℕ) (b : Bool) → by xs (cond b (Some Range) (Some Name)) ≡ by ys (cond b (Some Range) (Some Name))
  any_name xs ys true = refuses xs ys Range
  any_name xs ys false = refuses xs ys Name

  -- one byte more than a name may have does for all of it
  cut_name : (known : Known) (n : ℕ) (name : List ℕ)
      → by (take (longest_name + 1) name)
      (first_fault_by known (zone n (take (longest_name + 1) name)))
      ≡ by name (first_fault_by known (zone n name))
  cut_name known n name = go (cases_lt (longest_name + 1) (length name))
    where
      go : (longest_name + 1 < length name) ⊎ (length name ≤ longest_name + 1)
          → by (take (longest_name + 1) name)
          (first_fault_by known (zone n (take (longest_name + 1) name)))
          ≡ by name (first_fault_by known (zone n name))
      go (inr le) =
          ap (λ t. by t (first_fault_by known (zone n t))) (take_all (longest_name + 1) name le)
      go (inl lt) =
          let shortly : longest_name < length (take (longest_name + 1) name) =
          simp length-take (omega arith) in
          let longly : longest_name < length name = omega arith in
          ap (by (take (longest_name + 1) name))
          (long_row known n (take (longest_name + 1) name) shortly)
          ∙ any_name (take (longest_name + 1) name) name (not (within 1 last_zone n))
          ∙ ap (by name) (sym (long_row known n name longly))

pub long_name : (M : Meaning) (v : View M) (n : ℕ) (name out : List ℕ) →
    (reply M v (zone n (take (longest_name + 1) name)) ≡ reply M v (zone n name))
    × (after M v (zone n (take (longest_name + 1) name)) ≡ after M v (zone n name))
    × (output_after M v (zone n (take (longest_name + 1) name)) out
    ≡ output_after M v (zone n name) out)
long_name M v n name out = (
  cut_name (λ t o. reply_by v.known (zone n t) o) (λ xs ys f. refl) v.known n name,
  cut_name (λ t o. after_by M v (zone n t) o) (λ xs ys f. refl) v.known n name,
  cut_name (λ t o. output_by v.known (zone n t) out o) (λ xs ys f. refl) v.known n name,
)
