-- The least number with a property that can be decided.
use Rattle.std.specs.Prelude.{◌≡◌, ℕ, zero, suc, ◌<◌, ◌⊎◌}
use Rattle.std.proofs.Common.{subst, inl, inr, not-suc-le-zero, le_refl, eq-or-lt_of_le, le_of_suc-le-suc}

module _ (P : ℕ → Type 0) (dec : (k : ℕ) → Dec (P k)) where
  abbrev pub Least : Type 0
  Least = (m : ℕ) × P m × ((k : ℕ) → k < m → P k → ⊥)

  scan : (k : ℕ) → Least ⊎ ((j : ℕ) → j < k → P j → ⊥)
  scan zero = inr (λ j h x. not-suc-le-zero h)
  scan (suc k) = go (scan k) (dec k)
    where
      last : ((j : ℕ) → j < k → P j → ⊥) → (P k → ⊥) → (j : ℕ) → (j ≡ k) ⊎ (j < k) → P j → ⊥
      last none n j (inl e) x = n (subst P e x)
      last none n j (inr l) x = none j l x

      go : Least ⊎ ((j : ℕ) → j < k → P j → ⊥) → Dec (P k) → Least ⊎ ((j : ℕ) → j < suc k → P j → ⊥)
      go (inl l) d = inl l
      go (inr none) (yes x) = inl (k, x, none)
      go (inr none) (no n) = inr (λ j h. last none n j (eq-or-lt_of_le (le_of_suc-le-suc h)))

  pub least : (n : ℕ) → P n → (m : ℕ) × P m × ((k : ℕ) → k < m → P k → ⊥)
  least n x = go (scan (suc n))
    where
      go : Least ⊎ ((j : ℕ) → j < suc n → P j → ⊥) → Least
      go (inl l) = l
      go (inr none) = absurd (none n (le_refl (suc n)) x)
