-- Counting pairs by their first parts.
use Rattle.std.specs.Prelude.{◌≡◌, ℕ, ◌+◌, ◌*◌, ◌<◌, ◌≤◌, ◌⊎◌, List, [], ◌∷◌, ◌++◌, map, length, refl}
use Rattle.std.proofs.Common.{sym, ap, ap₂, subst, ◌∙◌, inl, inr, arith, length-append}
use native.Mathlib.Nat.{le_trans, le_of_eq, mul-le-mul_right, mul_comm, suc-mul, zero-mul, add_comm}
use Rattle.std.proofs.Math.Decide.{ℕ_discrete}
use Rattle.std.proofs.lemmas.List.{length-map}
use Rattle.std.specs.List.{AllByRecursion}
use Rattle.hashes.specs.Lists.{◌∈◌, Distinct}
use Rattle.hashes.specs.Counting.{∈_all, all_from_∈, distinct_inside, below, length_below, ∈_below, distinct_bounded}

module _ {A B : Type 0} where
  ∈_map : (f : A → B) (x : A) (xs : List A) → x ∈ xs → f x ∈ map f xs
  ∈_map f x [] m = absurd m
  ∈_map f x (y ∷ ys) (inl e) = inl (ap f e)
  ∈_map f x (y ∷ ys) (inr m) = inr (∈_map f x ys m)

  pub ∈_map_source : (f : A → B) (y : B) (xs : List A) → y ∈ map f xs → (x : A) × (x ∈ xs) × (y ≡ f x)
  ∈_map_source f y [] m = absurd m
  ∈_map_source f y (x ∷ xs) (inl e) = (x, inl refl, e)
  ∈_map_source f y (x ∷ xs) (inr m) = let t = ∈_map_source f y xs m in (t.0, inr t.1, t.2)

  -- what is injective on a list without repeats gives one
  pub distinct_map : (f : A → B) (xs : List A) → ((x y : A) → x ∈ xs → y ∈ xs → f x ≡ f y → x ≡ y) → Distinct xs → Distinct (map f xs)
  distinct_map f [] inj d = tt
  distinct_map f (x ∷ xs) inj d = (
    λ m.
        let t = ∈_map_source f (f x) xs m in
        d.0 (subst (λ (v : A). v ∈ xs) (sym (inj x t.0 (inl refl) (inr t.1) t.2)) t.1),
    distinct_map f xs (λ u v m k. inj u v (inr m) (inr k)) d.1,
  )

module _ {A : Type 0} where
  ∈_append_left : (x : A) (xs ys : List A) → x ∈ xs → x ∈ (xs ++ ys)
  ∈_append_left x [] ys m = absurd m
  ∈_append_left x (y ∷ xs) ys (inl e) = inl e
  ∈_append_left x (y ∷ xs) ys (inr m) = inr (∈_append_left x xs ys m)

  ∈_append_right : (x : A) (xs ys : List A) → x ∈ ys → x ∈ (xs ++ ys)
  ∈_append_right x [] ys m = m
  ∈_append_right x (y ∷ xs) ys m = inr (∈_append_right x xs ys m)

-- A list of elements that each have Q or R, taken apart: those that were found to have Q, and those that were found to have R.
pub record Partition {A : Type 0} (Q R : A → Type 0) (xs : List A) : Type 0 where
  pub qs : List A
  pub rs : List A
  pub qs_distinct : Distinct qs
  pub rs_distinct : Distinct rs
  pub qs_have : AllByRecursion Q qs
  pub rs_have : AllByRecursion R rs
  pub qs_from : (v : A) → v ∈ qs → v ∈ xs
  pub rs_from : (v : A) → v ∈ rs → v ∈ xs
  pub sizes : length xs ≡ length qs + length rs

module _ {A : Type 0} (Q R : A → Type 0) where
  partition_more : (x : A) (xs : List A) → ¬ (x ∈ xs) → Q x ⊎ R x → Partition Q R xs → Partition Q R (x ∷ xs)
  partition_more x xs new (inl q) s = record {
    qs = x ∷ s.qs;
    rs = s.rs;
    qs_distinct = (λ m. new (s.qs_from x m), s.qs_distinct);
    rs_distinct = s.rs_distinct;
    qs_have = (q, s.qs_have);
    rs_have = s.rs_have;
    qs_from = λ v. elim [ inl e ↦ inl e | inr m ↦ inr (s.qs_from v m) ];
    rs_from = λ v m. inr (s.rs_from v m);
    sizes = omega (arith, s.sizes);
  }
  partition_more x xs new (inr r) s = record {
    qs = s.qs;
    rs = x ∷ s.rs;
    qs_distinct = s.qs_distinct;
    rs_distinct = (λ m. new (s.rs_from x m), s.rs_distinct);
    qs_have = s.qs_have;
    rs_have = (r, s.rs_have);
    qs_from = λ v m. inr (s.qs_from v m);
    rs_from = λ v. elim [ inl e ↦ inl e | inr m ↦ inr (s.rs_from v m) ];
    sizes = omega (arith, s.sizes);
  }

  partition : (xs : List A) → Distinct xs → AllByRecursion (λ x. Q x ⊎ R x) xs → Partition Q R xs
  partition [] d h = record {
    qs = [];
    rs = [];
    qs_distinct = tt;
    rs_distinct = tt;
    qs_have = tt;
    rs_have = tt;
    qs_from = λ v m. m;
    rs_from = λ v m. m;
    sizes = omega arith;
  }
  partition (x ∷ xs) d h = partition_more x xs d.0 h.0 (partition xs d.1 h.1)

decide_∈ : (x : ℕ) (xs : List ℕ) → Dec (x ∈ xs)
decide_∈ x [] = no (λ m. m)
decide_∈ x (y ∷ ys) = step (ℕ_discrete x y) (decide_∈ x ys)
  where
    step : Dec (x ≡ y) → Dec (x ∈ ys) → Dec (x ∈ (y ∷ ys))
    step (yes e) d = yes (inl e)
    step (no n) (yes m) = yes (inr m)
    step (no n) (no k) = no (elim [ inl e ↦ n e | inr m ↦ k m ])

-- the same elements, without repeats
pub record WithoutRepeats (xs : List ℕ) : Type 0 where
  pub list : List ℕ
  pub distinct : Distinct list
  pub from : (v : ℕ) → v ∈ list → v ∈ xs
  pub has : (v : ℕ) → v ∈ xs → v ∈ list

without_repeats : (xs : List ℕ) → WithoutRepeats xs
without_repeats [] = record { list = []; distinct = tt; from = λ v m. m; has = λ v m. m }
without_repeats (x ∷ xs) = step (without_repeats xs) (decide_∈ x (without_repeats xs).list)
  where
    step : (o : WithoutRepeats xs) → Dec (x ∈ o.list) → WithoutRepeats (x ∷ xs)
    step o (yes m) = record {
      list = o.list;
      distinct = o.distinct;
      from = λ v k. inr (o.from v k);
      has = λ v. elim [ inl e ↦ subst (λ (u : ℕ). u ∈ o.list) (sym e) m | inr k ↦ o.has v k ];
    }
    step o (no n) = record {
      list = x ∷ o.list;
      distinct = (n, o.distinct);
      from = λ v. elim [ inl e ↦ inl e | inr k ↦ inr (o.from v k) ];
      has = λ v. elim [ inl e ↦ inl e | inr k ↦ inr (o.has v k) ];
    }

-- every pair of a first from ps and a second from ss
pairs : List ℕ → List ℕ → List (ℕ × ℕ)
pairs [] ss = []
pairs (p ∷ ps) ss = map (λ s. (p, s)) ss ++ pairs ps ss

length_pairs : (ps ss : List ℕ) → length (pairs ps ss) ≡ length ps * length ss
unfolding pairs
length_pairs [] ss = sym (zero-mul (length ss))
length_pairs (p ∷ ps) ss =
    length-append (map (λ s. (p, s)) ss) (pairs ps ss) ∙ ap₂ ◌+◌ (length-map ss (λ s. (p, s))) (length_pairs ps ss)
    ∙ add_comm (length ss) (length ps * length ss) ∙ sym (suc-mul (length ps) (length ss))

∈_pairs : (p s : ℕ) (ps ss : List ℕ) → p ∈ ps → s ∈ ss → ◌∈◌ {A = ℕ × ℕ} (p, s) (pairs ps ss)
unfolding pairs
∈_pairs p s [] ss m k = absurd m
∈_pairs p s (q ∷ ps) ss (inl e) k =
    ∈_append_left (p, s) (map (λ s. (q, s)) ss) (pairs ps ss) (subst (λ (v : ℕ). ◌∈◌ {A = ℕ × ℕ} (p, s) (map (λ s. (v, s)) ss)) e (∈_map (λ s. (p, s)) s ss k))
∈_pairs p s (q ∷ ps) ss (inr m) k = ∈_append_right (p, s) (map (λ s. (q, s)) ss) (pairs ps ss) (∈_pairs p s ps ss m k)

-- COUNT OF PAIRS: the keys are pairs of numbers below n. At most k firsts are bad. Under any other first there is at most one key.
-- Then there are at most n * (k + 1) keys.
module _ (n k : ℕ) (Bad : ℕ → Type 0) (few : (ps : List ℕ) → Distinct ps → AllByRecursion Bad ps → length ps ≤ k) where
  bad_pairs : (ks : List (ℕ × ℕ)) → Distinct ks → AllByRecursion (λ e. e.1 < n) ks → AllByRecursion (λ e. Bad e.0) ks → length ks ≤ k * n
  bad_pairs ks d h b =
      let o = without_repeats (map (λ e. e.0) ks) in
      le_trans (distinct_inside ks (pairs o.list (below n)) d
      (λ e m. ∈_pairs e.0 e.1 o.list (below n) (o.has e.0 (∈_map (λ e. e.0) e ks m)) (∈_below n e.1 (∈_all (λ e. e.1 < n) e ks h m))))
      (le_trans (le_of_eq (length_pairs o.list (below n) ∙ ap (λ (x : ℕ). length o.list * x) (length_below n)))
      (mul-le-mul_right n (few o.list o.distinct (all_from_∈ Bad o.list (λ p m.
      let t = ∈_map_source (λ e. e.0) p ks (o.from p m) in
      subst Bad (sym t.2) (∈_all (λ e. Bad e.0) t.0 ks b t.1))))))

  pub pairs_bound : (ks : List (ℕ × ℕ)) → Distinct ks → AllByRecursion (λ e. (e.0 < n) × (e.1 < n)) ks
      → AllByRecursion (λ e. Bad e.0 ⊎ ((f : ℕ × ℕ) → f ∈ ks → f.0 ≡ e.0 → f ≡ e)) ks → length ks ≤ n * (k + 1)
  pairs_bound ks d h b =
      let s = partition (λ e. Bad e.0) (λ e. (f : ℕ × ℕ) → f ∈ ks → f.0 ≡ e.0 → f ≡ e) ks d b in
      let few_bad = bad_pairs s.qs s.qs_distinct (all_from_∈ (λ e. e.1 < n) s.qs (λ e m. (∈_all (λ e. (e.0 < n) × (e.1 < n)) e ks h (s.qs_from e m)).1)) s.qs_have in
      let few_lone = distinct_bounded n (map (λ e. e.0) s.rs)
      (distinct_map (λ e. e.0) s.rs (λ x y m l e. ∈_all (λ e. (f : ℕ × ℕ) → f ∈ ks → f.0 ≡ e.0 → f ≡ e) y s.rs s.rs_have l x (s.rs_from x m) e) s.rs_distinct)
      (all_from_∈ (λ p. p < n) (map (λ e. e.0) s.rs) (λ p m.
      let t = ∈_map_source (λ e. e.0) p s.rs m in
      subst (λ (v : ℕ). v < n) (sym t.2) (∈_all (λ e. (e.0 < n) × (e.1 < n)) t.0 ks h (s.rs_from t.0 t.1)).0)) in
      omega (arith, s.sizes, length-map s.rs (λ e. e.0), few_bad, few_lone, mul_comm n (k + 1), native.Mathlib.Nat.add-mul k 1 n)
