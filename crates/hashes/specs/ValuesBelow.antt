-- The values of a function at the numbers below k, as a list.
use Rattle.std.specs.Prelude.{◌≡◌, ℕ, zero, suc, ◌<◌, ◌≢◌, ◌⊎◌, List, [], ◌∷◌, length, refl}
use Rattle.std.proofs.Common.{sym, ap, subst, inl, inr, not-suc-le-zero, le_refl, eq-or-lt_of_le, le_of_suc-le-suc, ne_of_lt}
use Rattle.std.proofs.Math.Nat.{le_step}
use Rattle.std.proofs.Math.Decide.{ℕ_discrete}
use Rattle.hashes.specs.Lists.{◌∈◌, Distinct}

abbrev pub values_below : (ℕ → ℕ) → ℕ → List ℕ
values_below c zero = []
values_below c (suc k) = c k ∷ values_below c k

pub length_values_below : (c : ℕ → ℕ) (k : ℕ) → length (values_below c k) ≡ k
length_values_below c zero = refl
length_values_below c (suc k) = ap suc (length_values_below c k)

-- what holds of each value holds of each entry
pub values_below_all : (P : ℕ → Type 0) (c : ℕ → ℕ) (k : ℕ) → ((i : ℕ) → i < k → P (c i)) → (y : ℕ) → y ∈ values_below c k → P y
values_below_all P c zero h y m = absurd m
values_below_all P c (suc k) h y (inl e) = subst P (sym e) (h k (le_refl (suc k)))
values_below_all P c (suc k) h y (inr m) = values_below_all P c k (λ i b. h i (le_step b)) y m

-- a value is found below k, or it is not there
found : (c : ℕ → ℕ) (v k : ℕ) → ((i : ℕ) × (i < k) × (c i ≡ v)) ⊎ ((i : ℕ) → i < k → c i ≢ v)
found c v zero = inr (λ i h e. not-suc-le-zero h)
found c v (suc k) = go (found c v k) (ℕ_discrete (c k) v)
  where
    last : ((i : ℕ) → i < k → c i ≢ v) → c k ≢ v → (i : ℕ) → (i ≡ k) ⊎ (i < k) → c i ≢ v
    last none n i (inl e) f = n (subst (λ (x : ℕ). c x ≡ v) e f)
    last none n i (inr l) f = none i l f

    go : ((i : ℕ) × (i < k) × (c i ≡ v)) ⊎ ((i : ℕ) → i < k → c i ≢ v) → Dec (c k ≡ v)
        → ((i : ℕ) × (i < suc k) × (c i ≡ v)) ⊎ ((i : ℕ) → i < suc k → c i ≢ v)
    go (inl f) d = inl (f.0, le_step f.1, f.2)
    go (inr none) (yes e) = inl (k, le_refl (suc k), e)
    go (inr none) (no n) = inr (λ i h. last none n i (eq-or-lt_of_le (le_of_suc-le-suc h)))

-- the values are without repeats, or two of them are equal
pub apart_or : (c : ℕ → ℕ) (k : ℕ) → Distinct (values_below c k) ⊎ ((i : ℕ) × (j : ℕ) × (i < j) × (j < k) × (c i ≡ c j))
apart_or c zero = inl tt
apart_or c (suc k) = go (apart_or c k) (found c (c k) k)
  where
    go : Distinct (values_below c k) ⊎ ((i : ℕ) × (j : ℕ) × (i < j) × (j < k) × (c i ≡ c j))
        → ((i : ℕ) × (i < k) × (c i ≡ c k)) ⊎ ((i : ℕ) → i < k → c i ≢ c k)
        → Distinct (values_below c (suc k)) ⊎ ((i : ℕ) × (j : ℕ) × (i < j) × (j < suc k) × (c i ≡ c j))
    go (inr (i, j, l, h, e)) f = inr (i, j, l, le_step h, e)
    go (inl apart) (inl (i, h, e)) = inr (i, k, h, le_refl (suc k), e)
    go (inl apart) (inr none) = inl (λ m. values_below_all (λ (y : ℕ). c k ≢ y) c k (λ i h e. none i h (sym e)) (c k) m refl, apart)

pub all_apart : (k : ℕ) → Distinct (values_below (λ i. i) k)
all_apart zero = tt
all_apart (suc k) = (λ m. values_below_all (λ (y : ℕ). k ≢ y) (λ i. i) k (λ i h e. ne_of_lt h (sym e)) k m refl, all_apart k)
