-- Counting with lists without repeats: the pigeonhole principle, over lists and below a bound.
use Rattle.std.specs.Prelude.{◌≡◌, ℕ, zero, suc, ◌<◌, ◌≤◌, ◌⊎◌, List, [], ◌∷◌, length, refl}
use Rattle.std.proofs.Common.{sym, ap, subst, inl, inr, zero-le, suc-le-suc, arith}
use native.Mathlib.Nat.{le_trans, le_of_eq, le-suc_iff, lt_irrefl, le_step}
use Rattle.std.specs.List.{AllByRecursion}
use Rattle.hashes.specs.Lists.{◌∈◌, Distinct}

module _ {A : Type 0} where
  pub ∈_all : (P : A → Type 0) (x : A) (xs : List A) → AllByRecursion P xs → x ∈ xs → P x
  ∈_all P x (y ∷ ys) h (inl e) = subst P (sym e) h.0
  ∈_all P x (y ∷ ys) h (inr m) = ∈_all P x ys h.1 m
  ∈_all P x [] h m = absurd m

  pub all_from_∈ : (P : A → Type 0) (xs : List A) → ((x : A) → x ∈ xs → P x) → AllByRecursion P xs
  all_from_∈ P [] h = tt
  all_from_∈ P (x ∷ xs) h = (h x (inl refl), all_from_∈ P xs (λ y m. h y (inr m)))

  -- zs is ys with one x taken out of it
  pub data Without (x : A) : List A → List A → Type 0 where
    here : {zs : List A} → Without x zs (x ∷ zs)
    there : {y : A} {zs ys : List A} → Without x zs ys → Without x (y ∷ zs) (y ∷ ys)

  taken_out : (x : A) (ys : List A) → x ∈ ys → (zs : List A) × Without x zs ys
  taken_out x [] m = absurd m
  taken_out x (y ∷ ys) (inl e) = (ys, subst (λ (v : A). Without x ys (v ∷ ys)) e here)
  taken_out x (y ∷ ys) (inr m) = let t = taken_out x ys m in (y ∷ t.0, there t.1)

  without_length : {x : A} {zs ys : List A} → Without x zs ys → length ys ≡ suc (length zs)
  without_length here = refl
  without_length (there w) = ap suc (without_length w)

  ∈_without : (v : A) {x : A} {zs ys : List A} → Without x zs ys → v ∈ ys → (v ≡ x) ⊎ (v ∈ zs)
  ∈_without v here m = m
  ∈_without v (there w) (inl e) = inr (inl e)
  ∈_without v (there w) (inr m) = elim (∈_without v w m) [ inl e ↦ inl e | inr k ↦ inr (inr k) ]

  -- the elements of xs other than x stand in what is left of ys
  rest_inside : (x : A) (xs zs ys : List A) → ¬ (x ∈ xs) → ((v : A) → v ∈ (x ∷ xs) → v ∈ ys) → Without x zs ys → (v : A) → v ∈ xs → v ∈ zs
  rest_inside x xs zs ys new sub w v m =
      elim (∈_without v w (sub v (inr m))) [ inl e ↦ absurd (new (subst (λ (u : A). u ∈ xs) e m)) | inr k ↦ k ]

  -- PIGEONHOLE: a list without repeats whose elements all stand in ys is no longer than ys.
  pub distinct_inside : (xs ys : List A) → Distinct xs → ((v : A) → v ∈ xs → v ∈ ys) → length xs ≤ length ys
  distinct_inside [] ys d sub = zero-le
  distinct_inside (x ∷ xs) ys d sub =
      let t = taken_out x ys (sub x (inl refl)) in
      le_trans (suc-le-suc (distinct_inside xs t.0 d.1 (rest_inside x xs t.0 ys d.0 sub t.1))) (le_of_eq (sym (without_length t.1)))

-- the numbers below n
pub below : ℕ → List ℕ
below zero = []
below (suc n) = n ∷ below n

pub length_below : (n : ℕ) → length (below n) ≡ n
unfolding below
length_below zero = refl
length_below (suc n) = ap suc (length_below n)

pub ∈_below : (n x : ℕ) → x < n → x ∈ below n
unfolding below
∈_below zero x h = absurd (native.Mathlib.Nat.not-suc-le-zero h)
∈_below (suc n) x h = elim (le-suc_iff.0 h) [ inl k ↦ inr (∈_below n x k) | inr e ↦ inl (native.Mathlib.Nat.suc_inj e) ]

pub below_∈ : (n x : ℕ) → x ∈ below n → x < n
unfolding below
below_∈ zero x m = absurd m
below_∈ (suc n) x (inl e) = omega arith
below_∈ (suc n) x (inr m) = le_step (below_∈ n x m)

pub distinct_below : (n : ℕ) → Distinct (below n)
unfolding below
distinct_below zero = tt
distinct_below (suc n) = (λ m. lt_irrefl n (below_∈ n n m), distinct_below n)

-- A list without repeats of numbers below n has at most n of them.
pub distinct_bounded : (n : ℕ) (xs : List ℕ) → Distinct xs → AllByRecursion (λ x. x < n) xs → length xs ≤ n
distinct_bounded n xs d h =
    le_trans (distinct_inside xs (below n) d (λ v m. ∈_below n v (∈_all (λ x. x < n) v xs h m))) (le_of_eq (length_below n))
