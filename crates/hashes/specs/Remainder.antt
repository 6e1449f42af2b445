-- Division with remainder by a polynomial p with the leading term x^n.
use Rattle.std.specs.Prelude.{◌≡◌, ℕ, suc, ◌+◌, ◌*◌, ◌/◌, ◌%◌, ◌^◌, ◌<◌, ◌⊎◌, bit_xor}
use Rattle.std.proofs.Math.Path.{sym, ap, ap₂}
use Rattle.std.proofs.Common.{◌∙◌, subst, inl, inr, one-mul, mod-lt, zero-lt-suc, div-lt_iff_lt-mul, pow-suc, le_of_eq, le_trans, lt_of_lt_of_le, not-le_of_lt, eq-zero-or-pos, le-add_left, mul_comm, pow_pos, pow_mono, div-add-mod', mul-zero}
use Rattle.std.proofs.Math.Nat.{zero-mul, zero-div}
use Rattle.std.specs.Int.Bits.{xor_zero_r, xor_assoc, xor_self}
use Rattle.std.proofs.lemmas.Nat.{xor_lt, xor_comm}
use Rattle.std.proofs.Math.Arith.{bin_ind, digits_lt}
use Rattle.hashes.specs.Polynomial.{times, degree, reduce, remainder_at, remainder}
use Rattle.hashes.specs.Horner.{horner_zero, horner_step}
use Rattle.hashes.specs.Xor.{digit_cases, xor_swap, xor_dbl, xor_last, xor_cancel, xor_zero, by_last}
use Rattle.hashes.specs.Times.{times_zero_l, times_dbl_l, times_xor_l, times_comm, times_assoc, times_digit}
use Rattle.hashes.specs.Degree.{lead_low, xor_cancels, lead_times, degree_lead, degree_zero}

-- a polynomial with p for a factor is zero, or its degree is p's at least
multiple_low : (n p q : ℕ) → p / 2 ^ n ≡ 1 → times q p < 2 ^ n → q ≡ 0
multiple_low n p q e h = go (eq-zero-or-pos q)
  where
    go : (q ≡ 0) ⊎ (0 < q) → q ≡ 0
    go (inl z) = z
    go (inr k) =
        absurd (not-le_of_lt h (le_trans (pow_mono (le-add_left n (degree q)))
        (lead_low (times q p) (degree q + n) (lead_times (degree q) q p n (degree_lead q k) e))))

-- quotient and remainder are unique
pub division_unique : (n p q r q' r' : ℕ) → p / 2 ^ n ≡ 1 → r < 2 ^ n → r' < 2 ^ n
    → bit_xor (times q p) r ≡ bit_xor (times q' p) r' → (q ≡ q') × (r ≡ r')
division_unique n p q r q' r' e h h' same = (quotients, remainders)
  where
    -- the quotients' difference times p is the remainders' difference
    moved : times (bit_xor q q') p ≡ bit_xor r r'
    moved =
        times_xor_l q q' p
        ∙ xor_zero (bit_xor (times q p) (times q' p)) (bit_xor r r')
        (xor_swap (times q p) (times q' p) r r' ∙ ap (λ (x : ℕ). bit_xor x (bit_xor (times q' p) r')) same ∙ xor_self (bit_xor (times q' p) r'))

    quotients : q ≡ q'
    quotients = xor_zero q q' (multiple_low n p (bit_xor q q') e (subst (λ (x : ℕ). x < 2 ^ n) (sym moved) (xor_lt n r r' h h')))

    remainders : r ≡ r'
    remainders =
        sym (xor_cancel (times q p) r) ∙ ap (bit_xor (times q p)) (same ∙ ap (λ (x : ℕ). bit_xor (times x p) r') (sym quotients))
        ∙ xor_cancel (times q p) r'

-- ---- the remainder

module _ (n p : ℕ) where
  step : ℕ → ℕ → ℕ
  step r d = reduce n p (r * 2 + d)

  step_zero : step 0 0 ≡ 0
  unfolding step reduce
  step_zero = ap (λ (x : ℕ). x * p) (zero-div (2 ^ n)) ∙ zero-mul p

  remainder_at_zero : remainder_at n p 0 ≡ 0
  unfolding remainder_at step
  remainder_at_zero = horner_zero step

  pub remainder_at_step : (a : ℕ) → remainder_at n p a ≡ reduce n p (remainder_at n p (a / 2) * 2 + a % 2)
  unfolding remainder_at step
  remainder_at_step a = horner_step step step_zero a

  module _ (e : p / 2 ^ n ≡ 1) where
    digit_low : (r d : ℕ) → r < 2 ^ n → d < 2 → r * 2 + d < 2 ^ suc n
    digit_low r d h k = rw (pow-suc 2 n) (digits_lt h k)

    top_digit : (s : ℕ) → s < 2 ^ suc n → s / 2 ^ n < 2
    top_digit s h = (div-lt_iff_lt-mul (pow_pos n)).1 (rw (mul_comm 2 (2 ^ n), ← pow-suc 2 n) h)

    reduce_lt : (s : ℕ) → s < 2 ^ suc n → reduce n p s < 2 ^ n
    unfolding reduce
    reduce_lt s h = go (digit_cases (top_digit s h))
      where
        low : s / 2 ^ n ≡ 0 → s < 2 ^ n
        low z = rw (one-mul (2 ^ n)) at ((div-lt_iff_lt-mul (pow_pos n)).0 (le_of_eq (ap suc z)))

        go : (s / 2 ^ n ≡ 0) ⊎ (s / 2 ^ n ≡ 1) → bit_xor s (s / 2 ^ n * p) < 2 ^ n
        go (inl z) = rw (z, zero-mul p, xor_zero_r s) (low z)
        go (inr o) = rw (o, one-mul p) (xor_cancels s p n o e)

    remainder_at_lt : (a : ℕ) → remainder_at n p a < 2 ^ n
    remainder_at_lt =
        bin_ind (λ (a : ℕ). remainder_at n p a < 2 ^ n) (rw remainder_at_zero (pow_pos n))
        (λ a ih. rw (remainder_at_step a) (reduce_lt _ (digit_low (remainder_at n p (a / 2)) (a % 2) ih (mod-lt a (zero-lt-suc 1)))))

    -- what a reduction takes away is a multiple of p
    reduce_multiple : (s : ℕ) → s < 2 ^ suc n → s ≡ bit_xor (times (s / 2 ^ n) p) (reduce n p s)
    unfolding reduce
    reduce_multiple s h =
        sym (xor_cancel (s / 2 ^ n * p) s)
        ∙ ap₂ bit_xor (sym (times_digit (s / 2 ^ n) p (top_digit s h))) (xor_comm (s / 2 ^ n * p) s)

    divided_at : (a : ℕ) → (q : ℕ) × (a ≡ bit_xor (times q p) (remainder_at n p a))
    divided_at =
        bin_ind (λ (a : ℕ). (q : ℕ) × (a ≡ bit_xor (times q p) (remainder_at n p a)))
        (0, ap₂ bit_xor (sym (times_zero_l p)) (sym remainder_at_zero))
        (λ a ih. more a ih.0 ih.1)
      where
        more : (a q : ℕ) → a / 2 ≡ bit_xor (times q p) (remainder_at n p (a / 2)) → (q : ℕ) × (a ≡ bit_xor (times q p) (remainder_at n p a))
        more a q h = (bit_xor (q * 2) (s / 2 ^ n), proof)
          where
            r : ℕ
            r = remainder_at n p (a / 2)

            d : ℕ
            d = a % 2

            s : ℕ
            s = r * 2 + d

            d_lt : d < 2
            d_lt = mod-lt a (zero-lt-suc 1)

            s_lt : s < 2 ^ suc n
            s_lt = digit_low r d (remainder_at_lt (a / 2)) d_lt

            proof : a ≡ bit_xor (times (bit_xor (q * 2) (s / 2 ^ n)) p) (remainder_at n p a)
            proof =
                sym (by_last a)
                ∙ ap (λ (x : ℕ). bit_xor (x * 2) d) h
                ∙ ap (λ (x : ℕ). bit_xor x d) (sym (xor_dbl (times q p) r))
                ∙ xor_assoc (times q p * 2) (r * 2) d
                ∙ ap₂ bit_xor (sym (times_dbl_l q p)) (xor_last r d d_lt ∙ reduce_multiple s s_lt)
                ∙ sym (xor_assoc (times (q * 2) p) (times (s / 2 ^ n) p) (reduce n p s))
                ∙ ap₂ bit_xor (sym (times_xor_l (q * 2) (s / 2 ^ n) p)) (sym (remainder_at_step a))

-- ---- the remainder by p, of p's own degree

module _ (p : ℕ) (pos : 0 < p) where
  pub remainder_lt : (a : ℕ) → remainder a p < 2 ^ degree p
  unfolding remainder
  remainder_lt = remainder_at_lt (degree p) p (degree_lead p pos)

  pub divided : (a : ℕ) → (q : ℕ) × (a ≡ bit_xor (times q p) (remainder a p))
  unfolding remainder
  divided = divided_at (degree p) p (degree_lead p pos)

  pub remainder_below : (a : ℕ) → remainder a p < p
  remainder_below a = lt_of_lt_of_le (remainder_lt a) (lead_low p (degree p) (degree_lead p pos))

  -- a polynomial of lower degree that differs from a by a multiple of p is a's remainder
  remainder_is : (a q r : ℕ) → r < 2 ^ degree p → a ≡ bit_xor (times q p) r → remainder a p ≡ r
  remainder_is a q r h f =
      (division_unique (degree p) p (divided a).0 (remainder a p) q r (degree_lead p pos) (remainder_lt a) h (sym (divided a).1 ∙ f)).1

  pub remainder_small : (a : ℕ) → a < 2 ^ degree p → remainder a p ≡ a
  remainder_small a h = remainder_is a 0 a h (ap (λ (x : ℕ). bit_xor x a) (sym (times_zero_l p)))

  pub remainder_multiple : (q : ℕ) → remainder (times q p) p ≡ 0
  remainder_multiple q = remainder_is (times q p) q 0 (pow_pos (degree p)) (sym (xor_zero_r (times q p)))

  -- a multiple of p makes no difference
  pub remainder_add : (q a : ℕ) → remainder (bit_xor (times q p) a) p ≡ remainder a p
  remainder_add q a =
      remainder_is (bit_xor (times q p) a) (bit_xor q (divided a).0) (remainder a p) (remainder_lt a)
      (ap (bit_xor (times q p)) (divided a).1
      ∙ sym (xor_assoc (times q p) (times (divided a).0 p) (remainder a p))
      ∙ ap (λ (x : ℕ). bit_xor x (remainder a p)) (sym (times_xor_l q (divided a).0 p)))

  pub remainder_xor : (a b : ℕ) → remainder (bit_xor a b) p ≡ bit_xor (remainder a p) (remainder b p)
  remainder_xor a b =
      remainder_is (bit_xor a b) (bit_xor (divided a).0 (divided b).0) (bit_xor (remainder a p) (remainder b p))
      (xor_lt (degree p) (remainder a p) (remainder b p) (remainder_lt a) (remainder_lt b))
      (ap₂ bit_xor (divided a).1 (divided b).1
      ∙ xor_swap (times (divided a).0 p) (remainder a p) (times (divided b).0 p) (remainder b p)
      ∙ ap (λ (x : ℕ). bit_xor x (bit_xor (remainder a p) (remainder b p))) (sym (times_xor_l (divided a).0 (divided b).0 p)))

  pub remainder_remainder : (a : ℕ) → remainder (remainder a p) p ≡ remainder a p
  remainder_remainder a = remainder_small (remainder a p) (remainder_lt a)

  pub remainder_times_l : (a b : ℕ) → remainder (times (remainder a p) b) p ≡ remainder (times a b) p
  remainder_times_l a b = sym
      (ap (λ (x : ℕ). remainder x p)
      (ap (λ (x : ℕ). times x b) (divided a).1 ∙ times_xor_l (times q p) (remainder a p) b
      ∙ ap (λ (x : ℕ). bit_xor x (times (remainder a p) b)) (times_assoc q p b ∙ ap (times q) (times_comm p b) ∙ sym (times_assoc q b p)))
      ∙ remainder_add (times q b) (times (remainder a p) b))
    where
      q : ℕ
      q = (divided a).0

  pub remainder_times_r : (a b : ℕ) → remainder (times a (remainder b p)) p ≡ remainder (times a b) p
  remainder_times_r a b =
      ap (λ (x : ℕ). remainder x p) (times_comm a (remainder b p)) ∙ remainder_times_l b a ∙ ap (λ (x : ℕ). remainder x p) (times_comm b a)

  pub remainder_times : (a b : ℕ) → remainder (times (remainder a p) (remainder b p)) p ≡ remainder (times a b) p
  remainder_times a b = remainder_times_l a (remainder b p) ∙ remainder_times_r a b

-- by zero, nothing is taken away
pub remainder_zero : (a : ℕ) → remainder a 0 ≡ a
unfolding remainder reduce
remainder_zero a = rw degree_zero (none a)
  where
    none : (a : ℕ) → remainder_at 0 0 a ≡ a
    none =
        bin_ind (λ (a : ℕ). remainder_at 0 0 a ≡ a) (remainder_at_zero 0 0)
        (λ a ih. remainder_at_step 0 0 a
        ∙ ap (bit_xor (remainder_at 0 0 (a / 2) * 2 + a % 2)) (mul-zero ((remainder_at 0 0 (a / 2) * 2 + a % 2) / 2 ^ 0))
        ∙ xor_zero_r (remainder_at 0 0 (a / 2) * 2 + a % 2)
        ∙ ap (λ (x : ℕ). x * 2 + a % 2) ih
        ∙ div-add-mod' a 2)
