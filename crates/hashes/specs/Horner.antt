-- Horner's rule over binary digits, by its step.
use Rattle.std.specs.Prelude.{◌≡◌, ℕ, zero, suc, ◌/◌, ◌%◌, ◌≤◌}
use Rattle.std.proofs.Math.Path.{refl, sym, ap}
use Rattle.std.proofs.Common.{◌∙◌, not-suc-le-zero, le_refl}
use Rattle.std.proofs.Math.Decide.{le_ind}
use Rattle.std.proofs.Math.Arith.{half_le}
use Rattle.hashes.specs.Polynomial.{horner_within, horner}

module _ (f : ℕ → ℕ → ℕ) where
  -- one step more changes nothing where there are enough
  more : (n a : ℕ) → a ≤ n → horner_within f (suc n) a ≡ horner_within f n a
  unfolding horner_within
  more zero zero h = refl
  more zero (suc a) h = absurd (not-suc-le-zero h)
  more (suc n) zero h = refl
  more (suc n) (suc a) h = ap (λ (x : ℕ). f x (suc a % 2)) (more n (suc a / 2) (half_le h))

  enough : (n a : ℕ) → a ≤ n → horner_within f n a ≡ horner f a
  unfolding horner
  enough n a h = le_ind (λ (m : ℕ). horner_within f m a ≡ horner_within f a a) refl (λ m k e. more m a k ∙ e) n h

  pub horner_zero : horner f 0 ≡ 0
  unfolding horner horner_within
  horner_zero = refl

  pub horner_suc : (a : ℕ) → horner f (suc a) ≡ f (horner f (suc a / 2)) (suc a % 2)
  unfolding horner horner_within
  horner_suc a = ap (λ (x : ℕ). f x (suc a % 2)) (enough a (suc a / 2) (half_le (le_refl (suc a))))

  pub horner_step : f 0 0 ≡ 0 → (a : ℕ) → horner f a ≡ f (horner f (a / 2)) (a % 2)
  unfolding horner horner_within
  horner_step z zero = sym z
  horner_step z (suc a) = horner_suc a
