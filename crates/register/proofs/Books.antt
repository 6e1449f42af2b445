-- What a book knows, from its tables and from the records taken.
use Rattle.std.proofs.Common.{◌≡◌, ℕ, Bool, ◌||◌, List, [], ◌∷◌, ◌++◌, sym, ◌∙◌}
use mathlib.Core.Bool.{or-false}
use Rattle.std.specs.List.{list_any}
use Rattle.std.proofs.lemmas.List.Folds.{list_any-append}
use Rattle.register.specs.Records.{Record, zone, point, rule}
use Rattle.register.specs.Known.{zone_declared, point_declared, declares_zone, declares_point, known_of, with_declared, with_record}
use Rattle.register.proofs.Encoding.{message_more}

-- one record more
any_more : (p : Record → Bool) (before : List Record) (r : Record) → list_any p (before ++ (r ∷ [])) ≡ list_any p before || p r
any_more p before r = rw (list_any-append p before (r ∷ []), or-false (p r))

-- what is known after one record more is known of the records with it
pub known_push : (rs : List Record) (r : Record) → with_record (known_of rs) r ≡ known_of (rs ++ (r ∷ []))
known_push rs r = λ i. record { zones = λ z. zones_push r z i; points = λ p. points_push r p i; bytes = sym (message_more rs r) i }
  where
    zones_push : (r : Record) (z : ℕ) → (with_declared (known_of rs) r).zones z ≡ zone_declared (rs ++ (r ∷ [])) z
    zones_push (zone n name) z = sym (any_more (declares_zone z) rs (zone n name))
    zones_push (point n y k) z = sym (or-false _) ∙ sym (any_more (declares_zone z) rs (point n y k))
    zones_push (rule y q) z = sym (or-false _) ∙ sym (any_more (declares_zone z) rs (rule y q))

    points_push : (r : Record) (p : ℕ) → (with_declared (known_of rs) r).points p ≡ point_declared (rs ++ (r ∷ [])) p
    points_push (zone n name) p = sym (or-false _) ∙ sym (any_more (declares_point p) rs (zone n name))
    points_push (point n y k) p = sym (any_more (declares_point p) rs (point n y k))
    points_push (rule y q) p = sym (or-false _) ∙ sym (any_more (declares_point p) rs (rule y q))
