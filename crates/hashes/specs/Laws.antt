-- The laws of polynomials over GF(2), for every degree. They fix what sum, product, degree, remainder and greatest common
-- divisor are.
use Rattle.std.specs.Prelude.{◌≡◌, ℕ, suc, ◌+◌, ◌*◌, ◌^◌, ◌<◌, ◌≤◌, ◌⊎◌, List, length, bit_xor}
use Rattle.hashes.specs.Irreducible.{Irreducible}
use Rattle.hashes.specs.Lists.{Distinct}
use Rattle.hashes.specs.Polynomial.{Divides, degree, gcd, remainder, times}
use Rattle.std.specs.List.{AllByRecursion}

pub record PolynomialLaws : Type 0 where
  -- a commutative ring, in which each polynomial is its own negative
  pub sum_commutes : (a b : ℕ) → bit_xor a b ≡ bit_xor b a
  pub sum_associates : (a b c : ℕ) → bit_xor (bit_xor a b) c ≡ bit_xor a (bit_xor b c)
  pub sum_zero : (a : ℕ) → bit_xor a 0 ≡ a
  pub sum_self : (a : ℕ) → bit_xor a a ≡ 0
  pub commutes : (a b : ℕ) → times a b ≡ times b a
  pub associates : (a b c : ℕ) → times (times a b) c ≡ times a (times b c)
  pub one : (a : ℕ) → times 1 a ≡ a
  pub distributes : (a b c : ℕ) → times a (bit_xor b c) ≡ bit_xor (times a b) (times a c)
  -- the powers of x
  pub powers : (i j : ℕ) → times (2 ^ i) (2 ^ j) ≡ 2 ^ (i + j)
  -- the leading term, the degree of a product, and no zero divisors
  pub leading : (a : ℕ) → 0 < a → (2 ^ degree a ≤ a) × (a < 2 ^ suc (degree a))
  pub product_degree : (a b : ℕ) → 0 < a → 0 < b → degree (times a b) ≡ degree a + degree b
  pub no_zero_divisors : (a b : ℕ) → times a b ≡ 0 → (a ≡ 0) ⊎ (b ≡ 0)
  -- division with remainder: it can be done, and in one way only
  pub divided : (p a : ℕ) → 0 < p → (q : ℕ) × (a ≡ bit_xor (times q p) (remainder a p))
  pub remainder_low : (p a : ℕ) → 0 < p → remainder a p < 2 ^ degree p
  pub division_unique : (p q r q' r' : ℕ) → 0 < p → r < 2 ^ degree p → r' < 2 ^ degree p
      → bit_xor (times q p) r ≡ bit_xor (times q' p) r' → (q ≡ q') × (r ≡ r')
  -- the greatest common divisor, with its cofactors
  pub common : (a b : ℕ) → Divides (gcd a b) a × Divides (gcd a b) b
  pub greatest : (d a b : ℕ) → Divides d a → Divides d b → Divides d (gcd a b)
  pub cofactors : (a b : ℕ) → (u : ℕ) × (v : ℕ) × (gcd a b ≡ bit_xor (times u a) (times v b))
  -- an irreducible polynomial that divides a product divides a factor
  pub prime : (p a b : ℕ) → Irreducible p → Divides p (times a b) → Divides p a ⊎ Divides p b
  -- how many irreducible polynomials of degree n divide a
  pub few_divisors : (n a : ℕ) (ps : List ℕ) → 0 < a → Distinct ps → AllByRecursion (λ p. Irreducible p × (degree p ≡ n) × Divides p a) ps → length ps * n ≤ degree a
