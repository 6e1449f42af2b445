-- The first entry of a list that has a property.
use Rattle.std.specs.Prelude.{List, ◌∷◌}
use Rattle.std.specs.List.{AllByRecursion}

-- a is the first entry with P
pub data First {A : Type 0} (P : A → Type 0) : List A → A → Type 0 where
  here : {a : A} {rest : List A} → P a → First P (a ∷ rest) a
  later : {a b : A} {rest : List A} → ¬ P a → First P rest b → First P (a ∷ rest) b

-- no entry has P
abbrev pub NoneOf : {A : Type 0} → (A → Type 0) → List A → Type 0
NoneOf P entries = AllByRecursion (λ a. ¬ P a) entries
