-- Whole texts and inputs worked by hand.
use Rattle.std.specs.Prelude.{◌≡◌, ℕ, List, [], ◌∷◌, ◌++◌, replicate, Ok, Err, codes}
use Rattle.hashes.specs.Evaluation.{evaluation_family}
use Rattle.register.specs.Check.{checked, says}
use Rattle.line_reader.specs.Making.{made}
use Rattle.line_reader.specs.SiteInput.{input_answer, no_seal}
use Rattle.line_reader.specs.WorkedSums.{reducible_buffer}

-- the point 1 and a pad of zeros, as a key buffer of the evaluation hash
abbrev pub point_one : List ℕ
point_one = replicate 7 0 ++ (1 ∷ replicate 8 0)

-- the same point, and a pad that is not zero
abbrev pub padded_one : List ℕ
padded_one = replicate 7 0 ++ (1 ∷ 0x01 ∷ 0x23 ∷ 0x45 ∷ 0x67 ∷ 0x89 ∷ 0xAB ∷ 0xCD ∷ 0xEF ∷ [])

-- a zone, a point in it, and a rule, a line each
abbrev pub site : List ℕ
site = codes "zone 7 \"A\"" ++ (0x0A ∷ codes "point 3 7 heat" ++ (0x0A ∷ codes "rule 7 3"))

-- Its image. The hash is the point's third power, 1, and the words 0100030007410200,
-- 0500030007020300 and 0400070003800000 added bit by bit: 0000070003C30101.
abbrev pub site_image : List ℕ
site_image =
    0x01 ∷ 0x00 ∷ 0x03 ∷ 0x00 ∷ 0x07 ∷ 0x41
    ∷ 0x02 ∷ 0x00 ∷ 0x05 ∷ 0x00 ∷ 0x03 ∷ 0x00 ∷ 0x07 ∷ 0x02
    ∷ 0x03 ∷ 0x00 ∷ 0x04 ∷ 0x00 ∷ 0x07 ∷ 0x00 ∷ 0x03
    ∷ 0x53 ∷ 0x00 ∷ 0x09 ∷ 0x03 ∷ 0x01 ∷ 0x23 ∷ 0x42 ∷ 0x67 ∷ 0x8A ∷ 0x68 ∷ 0xCC ∷ 0xEE ∷ []

pub record WorkedInputs : Type 0 where
  -- a text with one zone
  pub zone :
      input_answer (3 ∷ (point_one ++ (codes "zone 7 \"A\"" ++ (0x0A ∷ []))))
      ≡ Ok (18, 0x0100030007418001)
  -- the site's seal, its image in an output with seven bytes more, and the check of this image
  pub site_sealed : input_answer (3 ∷ (padded_one ++ site)) ≡ Ok (33, 0x012342678A68CCEE)
  pub site_made : made evaluation_family padded_one site 40 ≡ (Ok 33, site_image ++ replicate 7 0)
  pub site_passes : checked evaluation_family padded_one site_image ≡ says 1
  -- a carriage return in front of the line feed is part of no line
  pub carriage_return :
      input_answer (3 ∷ (point_one ++ (codes "zone 7 \"A\"" ++ (0x0D ∷ 0x0A ∷ []))))
      ≡ Err (11, (1, 10))
  -- a polynomial that is no key
  pub no_key : input_answer (1 ∷ reducible_buffer) ≡ no_seal 3
  -- no code, and codes that pick no family
  pub no_code : input_answer [] ≡ no_seal 4
  pub code_zero : input_answer (0 ∷ point_one) ≡ no_seal 4
  pub code_four : input_answer (4 ∷ point_one) ≡ no_seal 4
