-- The division hash step by step, one byte after the other. For words of any width.
use Rattle.std.specs.Prelude.{◌≡◌, ℕ, ◌+◌, ◌-◌, ◌*◌, ◌/◌, ◌%◌, ◌^◌, ◌<◌, ◌≤◌, List, [], ◌∷◌, fold, bit_xor, refl}
use Rattle.std.proofs.Math.Path.{sym, ap}
use Rattle.std.proofs.Common.{◌∙◌, mul_assoc, zero-mul, pow_pos}
use Rattle.hashes.specs.Division.{division, division_step, message_polynomial}
use Rattle.hashes.specs.Polynomial.{remainder, times_mod, degree}
use Rattle.hashes.specs.Word.{Bytes}
use Rattle.hashes.specs.Messages.{message_after}
use Rattle.hashes.specs.Remainder.{remainder_small, remainder_times_r, remainder_xor}
use Rattle.hashes.specs.Times.{times_one_l, times_comm}
use Rattle.hashes.specs.Words.{division_word, remainder_append, table_step, word_degree, word_pos, times_shl}
use Rattle.std.specs.Int.Digits.{number_from_digits_after}
use Rattle.std.proofs.Math.Nat.{mul_comm}
use Rattle.std.proofs.Math.Numerals.{lt-add-one}
use Rattle.hashes.specs.Xor.{xor_last, xor_shl}

-- x^n modulo x^n + w
pub division_of_one : (n w : ℕ) → w < 2 ^ n → division n w 1 ≡ w
division_of_one n w h =
    division_word n w 1 h
    ∙ (unfold times_mod in
    (ap (λ (x : ℕ). remainder x (2 ^ n + w)) (times_one_l w) ∙ remainder_small (2 ^ n + w) (word_pos n w) w (rw (word_degree n w h) h)))

-- ---- entries of the table one by one

module _ (n w : ℕ) where
  pub division_zero : division n w 0 ≡ 0
  unfolding division
  division_zero =
      ap (λ (x : ℕ). remainder x (2 ^ n + w)) (zero-mul (2 ^ n)) ∙ remainder_small (2 ^ n + w) (word_pos n w) 0 (pow_pos (degree (2 ^ n + w)))

  -- entry 2t is entry t times x
  pub division_double : (t : ℕ) → division n w (2 * t) ≡ times_mod (2 ^ n + w) 2 (division n w t)
  unfolding division times_mod
  division_double t =
      ap (λ (x : ℕ). remainder x (2 ^ n + w)) (mul_assoc 2 t (2 ^ n) ∙ mul_comm 2 (t * 2 ^ n) ∙ sym (times_comm 2 (t * 2 ^ n) ∙ times_shl (t * 2 ^ n) 1))
      ∙ sym (remainder_times_r (2 ^ n + w) (word_pos n w) 2 (t * 2 ^ n))

  -- and entry 2t + 1 has x^n added
  pub division_odd : (t : ℕ) → w < 2 ^ n → division n w (2 * t + 1) ≡ bit_xor (division n w (2 * t)) w
  division_odd t h = split ∙ ap (bit_xor (division n w (2 * t))) (division_of_one n w h)
    where
      split : division n w (2 * t + 1) ≡ bit_xor (division n w (2 * t)) (division n w 1)
      split = unfold division in
          (ap (λ (x : ℕ). remainder x (2 ^ n + w))
          (ap (λ (x : ℕ). x * 2 ^ n) (ap (λ (x : ℕ). x + 1) (mul_comm 2 t) ∙ sym (xor_last t 1 (lt-add-one 1)) ∙ ap (λ (x : ℕ). bit_xor x 1) (mul_comm t 2))
          ∙ sym (xor_shl (2 * t) 1 n))
          ∙ remainder_xor (2 ^ n + w) (word_pos n w) (2 * t * 2 ^ n) (1 * 2 ^ n))

-- ---- one byte after the other

-- one lookup: the entry for the remainder's top byte and the new one
pub division_lookup : (n p r b : ℕ) → 8 ≤ n → p < 2 ^ n → division_step n p r b ≡ bit_xor (r * 2 ^ 8 % 2 ^ n) (division n p (bit_xor (r / 2 ^ (n - 8)) b))
unfolding division_step
division_lookup n p r b l h = sym (table_step n 8 p r b l h)

division_moved : (n p M : ℕ) (m : List ℕ) → Bytes m → fold (division_step n p) (division n p M) m ≡ division n p (number_from_digits_after 256 M m)
division_moved n p M [] h = refl
division_moved n p M (b ∷ m) h = ap (λ (r : ℕ). fold (division_step n p) r m) one_byte ∙ division_moved n p (M * 256 + b) m h.1
  where
    one_byte : division_step n p (division n p M) b ≡ division n p (M * 256 + b)
    one_byte = unfold division division_step in sym (remainder_append (2 ^ n + p) (word_pos n p) M 8 b n h.0)

pub division_run : (n p : ℕ) (m : List ℕ) → p < 2 ^ n → Bytes m → fold (division_step n p) p m ≡ division n p (message_polynomial m)
division_run n p m hp h =
    ap (λ (r : ℕ). fold (division_step n p) r m) (sym (division_of_one n p hp)) ∙ division_moved n p 1 m h ∙ ap (division n p) (message_after m)
