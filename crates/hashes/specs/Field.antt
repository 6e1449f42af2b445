-- The residues modulo an irreducible polynomial f: the numbers below 2 ^ degree f, added by `bit_xor` and multiplied modulo f.
use Rattle.std.specs.Prelude.{◌≡◌, ℕ, zero, suc, ◌^◌, ◌<◌, List, [], ◌∷◌, length, bit_xor}
use Rattle.hashes.specs.Irreducible.{Irreducible}
use Rattle.hashes.specs.Lists.{Distinct}
use Rattle.hashes.specs.Polynomial.{degree, times_mod}
use Rattle.std.specs.List.{AllByRecursion}

-- a to the power k, modulo f
unfoldable pub power : ℕ → ℕ → ℕ → ℕ
power f zero a = 1
power f (suc k) a = times_mod f (power f k a) a

-- the polynomial with the coefficients c_0 to c_k at y: c_0 y^k + c_1 y^(k-1) + .. + c_k, modulo f
unfoldable pub powers_sum : ℕ → ℕ → List ℕ → ℕ
powers_sum f y [] = 0
powers_sum f y (c ∷ cs) = bit_xor (times_mod f c (power f (length cs) y)) (powers_sum f y cs)

pub record FieldLaws (f : ℕ) : Type 0 where
  -- a commutative ring
  pub closed : (a b : ℕ) → times_mod f a b < 2 ^ degree f
  pub commutes : (a b : ℕ) → times_mod f a b ≡ times_mod f b a
  pub associates : (a b c : ℕ) → times_mod f (times_mod f a b) c ≡ times_mod f a (times_mod f b c)
  pub distributes : (a b c : ℕ) → times_mod f a (bit_xor b c) ≡ bit_xor (times_mod f a b) (times_mod f a c)
  pub one : (a : ℕ) → a < 2 ^ degree f → times_mod f 1 a ≡ a
  -- in which every residue but zero has an inverse
  pub inverse : (a : ℕ) → 0 < a → a < 2 ^ degree f → (b : ℕ) × (b < 2 ^ degree f) × (times_mod f a b ≡ 1)
  -- it has 2 ^ d elements, d being the degree of f, and each is its own power with the exponent 2 ^ d
  pub fermat : (y : ℕ) → y < 2 ^ degree f → power f (2 ^ degree f) y ≡ y
  -- a polynomial with n + 1 coefficients, not all of them zero, has at most n roots
  pub few_roots : (cs ys : List ℕ) → AllByRecursion (λ c. c < 2 ^ degree f) cs → (AllByRecursion (λ c. c ≡ 0) cs → ⊥) → Distinct ys
      → AllByRecursion (λ y. (y < 2 ^ degree f) × (powers_sum f y cs ≡ 0)) ys → length ys < length cs

-- the residues modulo every irreducible polynomial are a field
abbrev pub ResidueFields : Type 0
ResidueFields = (f : ℕ) → Irreducible f → FieldLaws f
