-- Polynomials over GF(2), as numbers: the coefficient at x^i is the binary digit worth 2^i.
-- The sum of two is `bit_xor`, x^n is 2 ^ n, and a number below 2 ^ n is zero or a polynomial of degree below n.
use Rattle.std.specs.Prelude.{◌≡◌, ℕ, zero, suc, ◌+◌, ◌*◌, ◌/◌, ◌%◌, ◌^◌, bit_xor}

-- Horner's rule over the binary digits of a number, highest first: f is given what it made of the digits above, and the
-- next digit. The first number bounds the count of steps.
unfoldable pub horner_within : (ℕ → ℕ → ℕ) → ℕ → ℕ → ℕ
horner_within f zero a = zero
horner_within f (suc n) zero = zero
horner_within f (suc n) (suc a) = f (horner_within f n (suc a / 2)) (suc a % 2)

unfoldable pub horner : (ℕ → ℕ → ℕ) → ℕ → ℕ
horner f a = horner_within f a a

-- the product: for each digit of a, times x, and b added if the digit is 1
unfoldable pub times : ℕ → ℕ → ℕ
times a b = horner (λ r d. bit_xor (r * 2) (d * b)) a

-- the degree: one for each digit after the first; that of a constant, zero too, is 0
unfoldable pub degree : ℕ → ℕ
degree a = horner (λ n d. suc n) (a / 2)

-- p taken away from r, of degree n at most, if the coefficient at x^n is 1
unfoldable pub reduce : ℕ → ℕ → ℕ → ℕ
reduce n p r = bit_xor r (r / 2 ^ n * p)

-- the remainder of a by p, a polynomial of degree n: for each digit of a, times x, the digit added, and reduced
unfoldable pub remainder_at : ℕ → ℕ → ℕ → ℕ
remainder_at n p a = horner (λ r d. reduce n p (r * 2 + d)) a

-- the remainder of a by p; a itself where p is zero
unfoldable pub remainder : ℕ → ℕ → ℕ
remainder a p = remainder_at (degree p) p a

-- the product modulo p
unfoldable pub times_mod : ℕ → ℕ → ℕ → ℕ
times_mod p a b = remainder (times a b) p

-- d divides a
pub record Divides (d a : ℕ) : Type 0 where
  pub quotient : ℕ
  pub product : times quotient d ≡ a

-- the greatest common divisor, by Euclid's steps; the first number bounds their count
unfoldable pub gcd_within : ℕ → ℕ → ℕ → ℕ
gcd_within zero a b = a
gcd_within (suc n) a zero = a
gcd_within (suc n) a (suc b) = gcd_within n (suc b) (remainder a (suc b))

unfoldable pub gcd : ℕ → ℕ → ℕ
gcd a b = gcd_within b a b
