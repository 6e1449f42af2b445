-- Irreducible polynomials over GF(2).
use Rattle.std.specs.Prelude.{ℕ, zero, suc, ◌+◌, ◌-◌, ◌^◌, ◌<◌, ◌≤◌, Bool, true, not, ◌&&◌, ◌==◌, nat_lt}
use Rattle.hashes.specs.Polynomial.{Divides, degree, remainder}

-- p is no constant, and no polynomial of a degree from 1 to one less than p's divides it
pub record Irreducible (p : ℕ) : Type 0 where
  pub no_constant : 1 ≤ degree p
  pub no_divisor : (d : ℕ) → 1 ≤ degree d → degree d < degree p → Divides d p → ⊥

-- none of the k polynomials from x on divides p: each is tried
unfoldable pub none_divides : ℕ → ℕ → Bool
none_divides p zero = true
none_divides p (suc k) = not (remainder p (k + 2) == 0) && none_divides p k

-- the same as a function that computes: every polynomial of a degree from 1 to one less than p's is tried
unfoldable pub irreducible_by_trial : ℕ → Bool
irreducible_by_trial p = nat_lt 0 (degree p) && none_divides p (2 ^ degree p - 2)
