-- The trial of every divisor decides irreducibility.
use Rattle.std.specs.Prelude.{◌≡◌, ℕ, zero, suc, ◌+◌, ◌-◌, ◌^◌, ◌<◌, ◌≤◌, Bool, true, false, not, ◌&&◌, ◌≢◌, ◌⊎◌, Decides, ◌==◌, nat_eq, nat_lt, refl}
use Rattle.std.proofs.Common.{inl, inr, sym, ap, ap₂, ◌∙◌, subst, eq-or-lt_of_le, le_of_suc-le-suc, le_refl, not-suc-le-zero, arith}
use Rattle.std.proofs.Math.Nat.{le_step}
use Rattle.std.proofs.lemmas.Bool.{and_parts, eq-eqb, lt-ltb, ltb-true, ne_eqb}
use Rattle.hashes.specs.Irreducible.{Irreducible, irreducible_by_trial, none_divides}
use Rattle.hashes.specs.Polynomial.{Divides, degree, remainder}
use Rattle.hashes.specs.Factors.{degree_pos, pos_degree}
use Rattle.hashes.specs.Degree.{degree_lt, lt_degree}
use Rattle.hashes.specs.Divisors.{divides_of_remainder, remainder_of_divides}

-- ---- every one of the k polynomials from x on

tried : (p k : ℕ) → none_divides p k ≡ true → (j : ℕ) → j < k → remainder p (j + 2) ≢ 0
unfolding none_divides
tried p zero e j h z = not-suc-le-zero h
tried p (suc k) e j h z = go (tried p k b.1) (eq-or-lt_of_le (le_of_suc-le-suc h))
  where
    b : (not (remainder p (k + 2) == 0) ≡ true) × (none_divides p k ≡ true)
    b = and_parts (not (remainder p (k + 2) == 0)) (none_divides p k) e

    go : ((j : ℕ) → j < k → remainder p (j + 2) ≢ 0) → (j ≡ k) ⊎ (j < k) → ⊥
    go rest (inl s) =
        let f : nat_eq (remainder p (k + 2)) 0 ≡ true = eq-eqb (remainder p (k + 2)) 0 (subst (λ (i : ℕ). remainder p (i + 2) ≡ 0) s z) in
        let w : ◌≡◌ {A = Bool} false true = sym (ap not f) ∙ b.0 in
        cc
    go rest (inr l) = rest j l z

untried : (p k : ℕ) → ((j : ℕ) → j < k → remainder p (j + 2) ≢ 0) → none_divides p k ≡ true
unfolding none_divides
untried p zero h = refl
untried p (suc k) h = ap₂ ◌&&◌ (ap not (ne_eqb (remainder p (k + 2)) 0 (h k (le_refl (suc k))))) (untried p k (λ j l. h j (le_step l)))

pub trial_decides : (p : ℕ) → Decides (irreducible_by_trial p) (Irreducible p)
unfolding irreducible_by_trial
trial_decides p = (passes, irreducible)
  where
    passes : (nat_lt 0 (degree p) && none_divides p (2 ^ degree p - 2)) ≡ true → Irreducible p
    passes e = record { no_constant = ltb-true 0 (degree p) b.0; no_divisor = none }
      where
        b : (nat_lt 0 (degree p) ≡ true) × (none_divides p (2 ^ degree p - 2) ≡ true)
        b = and_parts (nat_lt 0 (degree p)) (none_divides p (2 ^ degree p - 2)) e

        none : (d : ℕ) → 1 ≤ degree d → degree d < degree p → Divides d p → ⊥
        none d one low div =
            let two : 2 ≤ d = degree_pos one in
            let small : d < 2 ^ degree p = lt_degree (degree p) d low in
            let there : d - 2 + 2 ≡ d = omega arith in
            tried p (2 ^ degree p - 2) b.1 (d - 2) (omega arith) (ap (remainder p) there ∙ remainder_of_divides (omega arith) div)

    irreducible : Irreducible p → (nat_lt 0 (degree p) && none_divides p (2 ^ degree p - 2)) ≡ true
    irreducible irr = ap₂ ◌&&◌ (lt-ltb 0 (degree p) irr.no_constant) (untried p (2 ^ degree p - 2) none)
      where
        none : (j : ℕ) → j < 2 ^ degree p - 2 → remainder p (j + 2) ≢ 0
        none j h z =
            irr.no_divisor (j + 2) (pos_degree (omega arith)) (degree_lt (degree p) (j + 2) irr.no_constant (omega arith))
            (divides_of_remainder (j + 2) p (omega arith) z)

-- a test that decides irreducibility answers what the trial does
pub same_as_trial : (b : Bool) (p : ℕ) → Decides b (Irreducible p) → b ≡ irreducible_by_trial p
same_as_trial b p d = go b (irreducible_by_trial p) d (trial_decides p)
  where
    go : (a c : Bool) → Decides a (Irreducible p) → Decides c (Irreducible p) → a ≡ c
    go true c f g = sym (g.1 (f.0 refl))
    go false true f g = f.1 (g.0 refl)
    go false false f g = refl
