-- The laws of polynomials over GF(2), put together.
use Rattle.std.proofs.Common.{◌≡◌, ◌^◌, sym, ◌∙◌, pow-add}
use lib.Bits.{xor_assoc, xor_comm, xor_self, xor_zero_r}
use Rattle.hashes.specs.Irreducible.{Irreducible}
use Rattle.hashes.specs.Laws.{PolynomialLaws}
use Rattle.hashes.specs.Polynomial.{Divides, degree}
use Rattle.hashes.specs.Counting.{∈_all}
use Rattle.hashes.specs.Degree.{degree_lead, degree_times, lead_high, lead_low, times_zero}
use Rattle.hashes.specs.Divisors.{euclid, gcd_common, gcd_greatest, irreducible_divisors}
use Rattle.hashes.specs.Remainder.{divided, division_unique, remainder_lt}
use Rattle.hashes.specs.Times.{times_assoc, times_comm, times_one_l, times_xor_r}
use Rattle.hashes.specs.Words.{times_shl}

pub polynomial_laws : PolynomialLaws
polynomial_laws = record {
  sum_commutes = xor_comm;
  sum_associates = xor_assoc;
  sum_zero = xor_zero_r;
  sum_self = xor_self;
  commutes = times_comm;
  associates = times_assoc;
  one = times_one_l;
  distributes = times_xor_r;
  powers = λ i j. times_shl (2 ^ i) j ∙ sym (pow-add 2 i j);
  leading = λ a pos. (lead_low a (degree a) (degree_lead a pos), lead_high a (degree a) (degree_lead a pos));
  product_degree = degree_times;
  no_zero_divisors = times_zero;
  divided = λ p a pos. divided p pos a;
  remainder_low = λ p a pos. remainder_lt p pos a;
  division_unique = λ p q r q' r' pos. division_unique (degree p) p q r q' r' (degree_lead p pos);
  common = λ a b. ((gcd_common a b).left, (gcd_common a b).right);
  greatest = λ d a b. gcd_greatest;
  cofactors = λ a b. ((gcd_common a b).u, (gcd_common a b).v, (gcd_common a b).sum);
  prime = λ p a b. euclid a b;
  few_divisors = λ n a ps pos apart all.
      irreducible_divisors (λ p. p) (λ j k e. e) n a pos ps apart
      (λ p m. ∈_all (λ p. Irreducible p × (degree p ≡ n) × Divides p a) p ps all m);
}
