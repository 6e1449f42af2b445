-- The evaluation hash's modulus x^64 + x^4 + x^3 + x + 1 is irreducible: it passes the exact test, computed here.
use Rattle.std.specs.Prelude.{◌≡◌, ◌+◌, ◌^◌, false, ◌==◌, refl}
use Rattle.std.proofs.lemmas.Bool.{eqb-false}
use Rattle.hashes.specs.Polynomial.{horner_within, horner, times, degree, reduce, remainder_at, remainder, times_mod}
use Rattle.hashes.specs.Irreducible.{Irreducible}
use Rattle.hashes.specs.Frobenius.{frobenius}
use Rattle.hashes.specs.Rabin.{back_irreducible}

pub modulus_degree : degree (2 ^ 64 + 0x1B) ≡ 64
unfolding degree horner horner_within
modulus_degree = refl

not_half : (frobenius (2 ^ 64 + 0x1B) 32 2 == 2) ≡ false
unfolding horner_within horner times degree reduce remainder_at remainder times_mod frobenius
not_half = refl

whole : frobenius (2 ^ 64 + 0x1B) 64 2 ≡ 2
unfolding horner_within horner times degree reduce remainder_at remainder times_mod frobenius
whole = refl

pub modulus_irreducible : Irreducible (2 ^ 64 + 0x1B)
modulus_irreducible = back_irreducible (2 ^ 64 + 0x1B) modulus_degree (eqb-false (frobenius (2 ^ 64 + 0x1B) 32 2) 2 not_half, whole)
