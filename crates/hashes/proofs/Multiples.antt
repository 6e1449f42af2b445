-- The multiples of a word modulo a polynomial p.
use Rattle.std.proofs.Common.{◌≡◌, ℕ, suc, ◌+◌, ◌-◌, ◌*◌, ◌/◌, ◌%◌, ◌^◌, ◌<◌, ◌≤◌, sym, ap, ◌∙◌, subst, arith, zero-mul, pow-add}
use lib.Bits.{bit_xor, xor_zero_r}
use Rattle.hashes.specs.Additive.{Additive}
use Rattle.hashes.specs.Division.{division}
use Rattle.hashes.specs.FieldLemmas.{mod_assoc, mod_lt, mod_one_l, mod_rem_l, mod_xor_l}
use Rattle.hashes.specs.Polynomial.{remainder, times_mod}
use Rattle.hashes.specs.Remainder.{remainder_small}
use Rattle.hashes.specs.Times.{times_comm}
use Rattle.hashes.specs.Words.{double_word, table_step, times_shl, word_degree, word_pos}

module _ (p : ℕ) (pos : 0 < p) where
  -- x^j times a multiple
  pub multiple_up : (j k a : ℕ) → times_mod p (2 ^ j) (times_mod p k a) ≡ times_mod p (k * 2 ^ j) a
  multiple_up j k a = sym (mod_assoc p pos (2 ^ j) k a) ∙ ap (λ (x : ℕ). times_mod p x a) shifted ∙ mod_rem_l p pos (k * 2 ^ j) a
    where
      shifted : times_mod p (2 ^ j) k ≡ remainder (k * 2 ^ j) p
      shifted = unfold times_mod in ap (λ (x : ℕ). remainder x p) (times_comm (2 ^ j) k ∙ times_shl k j)

  pub multiple_add : (a : ℕ) → Additive (λ t. times_mod p t a)
  multiple_add a t u = mod_xor_l p pos t u a

pub multiple_one : (n w a : ℕ) → w < 2 ^ n → a < 2 ^ n → a ≡ times_mod (2 ^ n + w) 1 a
multiple_one n w a hw ha =
    sym (mod_one_l (2 ^ n + w) (word_pos n w) a ∙ remainder_small (2 ^ n + w) (word_pos n w) a (rw (word_degree n w hw) ha))

-- the next power
pub power_doubled : (n w a b k : ℕ) → w < 2 ^ suc n → b ≡ times_mod (2 ^ suc n + w) (2 ^ k) a
    → bit_xor (b * 2 % 2 ^ suc n) (b / 2 ^ n * w) ≡ times_mod (2 ^ suc n + w) (2 ^ (k + 1)) a
power_doubled n w a b k hw e =
    sym (double_word n w b hw small) ∙ ap (times_mod p 2) e ∙ multiple_up p (word_pos (suc n) w) 1 (2 ^ k) a
    ∙ ap (λ (x : ℕ). times_mod p x a) (sym (pow-add 2 k 1))
  where
    p : ℕ
    p = 2 ^ suc n + w

    small : b < 2 ^ suc n
    small = rw e (subst (λ (d : ℕ). times_mod p (2 ^ k) a < 2 ^ d) (word_degree (suc n) w hw) (mod_lt p (word_pos (suc n) w) (2 ^ k) a))

-- x^4 times a: the top half byte goes out, and its multiple of x^n is added
pub half_byte_up : (n w a : ℕ) → 4 ≤ n → w < 2 ^ n → times_mod (2 ^ n + w) (2 ^ 4) a ≡ bit_xor (a * 2 ^ 4 % 2 ^ n) (division n w (a / 2 ^ (n - 4)))
unfolding times_mod
half_byte_up n w a l h =
    ap (λ (x : ℕ). remainder x (2 ^ n + w)) (times_comm (2 ^ 4) a ∙ times_shl a 4 ∙ sym (ap (bit_xor (a * 2 ^ 4)) (zero-mul (2 ^ n)) ∙ xor_zero_r (a * 2 ^ 4)))
    ∙ sym (table_step n 4 w a 0 l h)
    ∙ ap (λ (t : ℕ). bit_xor (a * 2 ^ 4 % 2 ^ n) (division n w t)) (xor_zero_r (a / 2 ^ (n - 4)))

-- the same at the width of the code's words, which the check does not find by itself
pub half_byte_up_64 : (w a : ℕ) → w < 2 ^ 64 → times_mod (2 ^ 64 + w) (2 ^ 4) a ≡ bit_xor (a * 2 ^ 4 % 2 ^ 64) (division 64 w (a / 2 ^ 60))
half_byte_up_64 w a = half_byte_up 64 w a (omega arith)
