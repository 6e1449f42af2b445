-- The sums worked by hand, by computing; the reducible polynomial by its square root.
use Rattle.std.proofs.Common.{◌≡◌, ℕ, ◌+◌, ◌^◌, [], ◌∷◌, ◌++◌, replicate, Ok, Err, bit_xor, codes, refl, ap, arith}
use lib.Count.{ones}
use Rattle.hashes.specs.Division.{division, division_family, division_hash}
use Rattle.hashes.specs.Evaluation.{evaluation, evaluation_family, evaluation_hash, words}
use Rattle.hashes.specs.Family.{Meaning}
use Rattle.hashes.specs.KeyFault.{judged}
use Rattle.hashes.specs.Field.{power, powers_sum}
use Rattle.hashes.specs.Irreducible.{Irreducible}
use Rattle.hashes.specs.Polynomial.{degree, horner, horner_within, reduce, remainder, remainder_at, times, times_mod}
use Rattle.hashes.specs.Toeplitz.{bit, bits, byte_bits, chosen, lfsr, message_bits, parity, state, toeplitz, toeplitz_hash}
use Rattle.hashes.specs.DivisionFamily.{division_facts}
use Rattle.register.specs.Check.{checked, says}
use Rattle.register.specs.Facts.{RegisterFacts}
use Rattle.register.specs.Records.{Record, zone}
use Rattle.register.specs.Run.{a_record, unread}
use Rattle.register.specs.View.{opening, standing}
use Rattle.line_reader.specs.Making.{made}
use Rattle.line_reader.specs.SiteInput.{input_answer, no_seal, unless_refused_key}
use Rattle.line_reader.specs.WorkedInputs.{WorkedInputs, padded_one, point_one, site, site_image}
use Rattle.line_reader.specs.WorkedSums.{Adds, WorkedSums, reducible_buffer, zone_seven}
use Rattle.line_reader.proofs.Asked.{lines_exact}

division_none : division_hash 0x1B [] ≡ 0x1B
unfolding division remainder remainder_at horner horner_within reduce degree
division_none = refl

division_one : division_hash 0x1B (0x01 ∷ []) ≡ 0x1B1B
unfolding division remainder remainder_at horner horner_within reduce degree
division_one = refl

toeplitz_none : toeplitz_hash 0x1B 1 [] ≡ 1
unfolding toeplitz chosen message_bits byte_bits state bits bit lfsr parity
toeplitz_none = refl

toeplitz_one : toeplitz_hash 0x1B 1 (0x80 ∷ []) ≡ 0x0100000000000001
unfolding toeplitz chosen message_bits byte_bits state bits bit lfsr parity ones
toeplitz_one = refl

evaluation_none : evaluation_hash 1 [] ≡ 0x8000000000000001
unfolding evaluation words powers_sum power times_mod times remainder remainder_at horner horner_within reduce degree
evaluation_none = refl

evaluation_zone : evaluation_hash 1 zone_seven ≡ 0x0100030007418001
unfolding evaluation words powers_sum power times_mod times remainder remainder_at horner horner_within reduce degree
evaluation_zone = refl

evaluation_twice : evaluation_hash 2 zone_seven ≡ 0x020006000E830004
unfolding evaluation words powers_sum power times_mod times remainder remainder_at horner horner_within reduce degree
evaluation_twice = refl

square : times (2 ^ 32 + 3) (2 ^ 32 + 3) ≡ 2 ^ 64 + 5
unfolding times horner horner_within
square = refl

root_degree : degree (2 ^ 32 + 3) ≡ 32
unfolding degree horner horner_within
root_degree = refl

square_degree : degree (2 ^ 64 + 5) ≡ 64
unfolding degree horner horner_within
square_degree = refl

reducible : Irreducible (2 ^ 64 + 5) → ⊥
reducible i =
    i.no_divisor (2 ^ 32 + 3) (omega (arith, root_degree)) (omega (arith, root_degree, square_degree)) (record { quotient = 2 ^ 32 + 3; product = square })

refused : opening division_family reducible_buffer ≡ Err 3
refused =
    ap (judged (standing division_family (replicate 7 0 ++ (5 ∷ [])) 0 []))
    ((division_facts.others (replicate 7 0 ++ (5 ∷ []))).1 reducible)

stair : {M : Meaning} → RegisterFacts M → Adds (codes "zone 2 \"Stair \\\"B\\\"\"")
    (0x01 ∷ 0x00 ∷ 0x0B ∷ 0x00 ∷ 0x02 ∷ 0x53 ∷ 0x74 ∷ 0x61 ∷ 0x69 ∷ 0x72 ∷ 0x20 ∷ 0x22 ∷ 0x42
    ∷ 0x22 ∷ [])
stair facts =
    let r : Record = zone 2 (codes "Stair \"B\"") in (
      r,
      (lines_exact (codes "zone 2 \"Stair \\\"B\\\"\"") (a_record r)).0 refl,
      facts.steps_agree [] (a_record r),
      refl,
    )

pub worked_sums : {M : Meaning} → RegisterFacts M → WorkedSums
worked_sums facts = record {
  division_none = division_none;
  division_one = division_one;
  toeplitz_none = toeplitz_none;
  toeplitz_one = toeplitz_one;
  evaluation_none = evaluation_none;
  evaluation_zone = evaluation_zone;
  evaluation_twice = evaluation_twice;
  square = square;
  reducible = reducible;
  refused = refused;
  stair = stair facts;
  leading_zero = (lines_exact (codes "zone 07 \"A\"") (unread 11 5)).0 refl;
  no_escape = (lines_exact (codes "zone 7 \"A\\q\"") (unread 12 10)).0 refl;
  breaks_off = (lines_exact (codes "zone 7 \"A") (unread 11 9)).0 refl;
}

-- ---- whole texts and inputs

input_zone : input_answer (3 ∷ (point_one ++ (codes "zone 7 \"A\"" ++ (0x0A ∷ []))))
    ≡ Ok (18, 0x0100030007418001)
unfolding evaluation words powers_sum power times_mod times remainder remainder_at horner horner_within reduce degree
input_zone = refl

input_site : input_answer (3 ∷ (padded_one ++ site)) ≡ Ok (33, 0x012342678A68CCEE)
unfolding evaluation words powers_sum power times_mod times remainder remainder_at horner horner_within reduce degree
input_site = refl

site_made : made evaluation_family padded_one site 40 ≡ (Ok 33, site_image ++ replicate 7 0)
unfolding evaluation words powers_sum power times_mod times remainder remainder_at horner horner_within reduce degree
site_made = refl

site_passes : checked evaluation_family padded_one site_image ≡ says 1
unfolding evaluation words powers_sum power times_mod times remainder remainder_at horner horner_within reduce degree
site_passes = refl

no_key : input_answer (1 ∷ reducible_buffer) ≡ no_seal 3
no_key =
    ap (λ refusal. unless_refused_key refusal (Ok (12, bit_xor (division_hash 5 []) 0)))
    ((division_facts.others (replicate 7 0 ++ (5 ∷ []))).1 reducible)

pub worked_inputs : WorkedInputs
worked_inputs = record {
  zone = input_zone;
  site_sealed = input_site;
  site_made = site_made;
  site_passes = site_passes;
  carriage_return = refl;
  no_key = no_key;
  no_code = refl;
  code_zero = refl;
  code_four = refl;
}
