-- The examples of the families, by computing.
use Rattle.std.proofs.Common.{◌≡◌, [], refl}
use Rattle.hashes.specs.Evaluation.{evaluation, evaluation_hash, words}
use Rattle.hashes.specs.FamilyExamples.{FamilyExamples}
use Rattle.hashes.specs.Field.{power, powers_sum}
use Rattle.hashes.specs.Polynomial.{degree, horner, horner_within, reduce, remainder, remainder_at, times, times_mod}

evaluation_at_x : evaluation_hash 2 [] ≡ 0x1F
unfolding
    evaluation words powers_sum power times_mod times remainder remainder_at horner horner_within
    reduce degree
evaluation_at_x = refl

pub family_examples : FamilyExamples
family_examples = record {
  codes = (refl, refl, refl);
  key_lens = (refl, refl, refl);
  division_bounds = (refl, refl, refl);
  toeplitz_bounds = (refl, refl, refl);
  evaluation_bounds = (refl, refl, refl);
  modulus_powers = refl;
  evaluation_at_x = evaluation_at_x;
}
