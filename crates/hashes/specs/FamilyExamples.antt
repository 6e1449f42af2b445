-- Numbers of the families, worked by hand: codes, lengths of keys, bounds for some lengths of a
-- message, and the modulus.
use Rattle.std.specs.Prelude.{◌≡◌, ◌+◌, ◌*◌, ◌^◌, []}
use Rattle.hashes.specs.Division.{division_family}
use Rattle.hashes.specs.Evaluation.{evaluation_family, evaluation_hash, modulus}
use Rattle.hashes.specs.Toeplitz.{toeplitz_family}

pub record FamilyExamples : Type 0 where
  pub codes : (division_family.code ≡ 1) × (toeplitz_family.code ≡ 2) × (evaluation_family.code ≡ 3)
  -- one word of eight bytes, or two
  pub key_lens :
      (division_family.key_len ≡ 8) × (toeplitz_family.key_len ≡ 16)
      × (evaluation_family.key_len ≡ 8)
  -- Keys that agree are divisors of degree 64 of a polynomial of degree 8L + 64 at most, which is
  -- 120, 128 and 480064.
  pub division_bounds :
      (division_family.bound 7 ≡ 1) × (division_family.bound 8 ≡ 2)
      × (division_family.bound 60000 ≡ 7501)
  -- as many polynomials, and with each of them any of 2^64 first states
  pub toeplitz_bounds :
      (toeplitz_family.bound 7 ≡ 2 ^ 64) × (toeplitz_family.bound 8 ≡ 2 ^ 64 * 2)
      × (toeplitz_family.bound 60000 ≡ 2 ^ 64 * 7501)
  -- Points that agree are roots of a polynomial whose degree is one more than the count of words,
  -- which is 1, 2 and 7501.
  pub evaluation_bounds :
      (evaluation_family.bound 7 ≡ 2) × (evaluation_family.bound 8 ≡ 3)
      × (evaluation_family.bound 60000 ≡ 7502)
  -- x^64 + x^4 + x^3 + x + 1
  pub modulus_powers : modulus ≡ 2 ^ 64 + 2 ^ 4 + 2 ^ 3 + 2 ^ 1 + 2 ^ 0
  -- The empty message has one word, x^63. At x the hash is (x + x^63) x, which is x^2 + x^64, and
  -- x^64 is x^4 + x^3 + x + 1.
  pub evaluation_at_x : evaluation_hash 2 [] ≡ 0x1F
