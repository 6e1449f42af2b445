-- Remainders by x^n + w, where w is a word of n bits: what code does with words. For any width.
use Rattle.std.specs.Prelude.{◌≡◌, ℕ, zero, suc, ◌+◌, ◌-◌, ◌*◌, ◌/◌, ◌%◌, ◌^◌, ◌<◌, ◌≤◌, ◌⊎◌, bit_xor}
use Rattle.std.proofs.Math.Path.{sym, ap, ap₂}
use Rattle.std.proofs.Common.{◌∙◌, inl, inr, zero-mul, one-mul, mul-one, mul_assoc, mul_comm, add-zero, zero-add, mul_right_comm, mul-lt-mul_of_pos_right, mod-lt, pow-suc, zero-lt-suc, div-lt_iff_lt-mul, arith, pow_pos, pow-add, shl_lt, mul-le-mul_right, le_trans, le_of_eq, le_of_suc-le-suc, lt_of_le_of_lt}
use Rattle.std.proofs.Math.Nat.{mul-mod_left, mul-div-mul_right}
use Rattle.std.specs.Int.Bits.{xor_comm, xor_assoc, xor_shifted}
use Rattle.std.proofs.lemmas.Nat.{xor_block, shl-shr, mod-pow-add}
use Rattle.std.proofs.Math.Arith.{digits_div, digits_mod}
use Rattle.std.proofs.Math.Pow.{split}
use Rattle.hashes.specs.Polynomial.{times, degree, reduce, remainder_at, remainder, times_mod}
use Rattle.hashes.specs.Division.{division}
use Rattle.hashes.specs.Xor.{xor_shl, xor_cancel_r, digit_cases}
use Rattle.hashes.specs.Times.{times_one_r, times_dbl_r, times_comm, times_xor_r, times_step}
use Rattle.hashes.specs.Degree.{degree_is}
use Rattle.hashes.specs.Remainder.{remainder_small, remainder_add, remainder_xor, remainder_times_l, remainder_at_step, remainder_times_r}

-- x^n times a
pub times_shl : (a n : ℕ) → times a (2 ^ n) ≡ a * 2 ^ n
times_shl a zero = times_one_r a ∙ sym (mul-one a)
times_shl a (suc n) =
    ap (times a) (pow-suc 2 n) ∙ times_dbl_r a (2 ^ n) ∙ ap (λ (x : ℕ). x * 2) (times_shl a n) ∙ mul_assoc a (2 ^ n) 2 ∙ ap (λ (x : ℕ). a * x) (sym (pow-suc 2 n))

-- x^n + w has the leading term x^n
pub word_lead : (n w : ℕ) → w < 2 ^ n → (2 ^ n + w) / 2 ^ n ≡ 1
word_lead n w h = ap (λ (x : ℕ). (x + w) / 2 ^ n) (sym (one-mul (2 ^ n))) ∙ digits_div 1 h

pub word_degree : (n w : ℕ) → w < 2 ^ n → degree (2 ^ n + w) ≡ n
word_degree n w h = degree_is (2 ^ n + w) n (word_lead n w h)

pub word_pos : (n w : ℕ) → 0 < 2 ^ n + w
word_pos n w = let k : 0 < 2 ^ n = pow_pos n in omega arith

-- one reduction by words: the top digit falls out, and tells whether w is added
reduce_word : (n w s : ℕ) → w < 2 ^ n → s < 2 ^ suc n → reduce n (2 ^ n + w) s ≡ bit_xor (s % 2 ^ n) (s / 2 ^ n * w)
unfolding reduce
reduce_word n w s k h = go (digit_cases top)
  where
    top : s / 2 ^ n < 2
    top = (div-lt_iff_lt-mul (pow_pos n)).1 (rw (mul_comm 2 (2 ^ n), ← pow-suc 2 n) h)

    go : (s / 2 ^ n ≡ 0) ⊎ (s / 2 ^ n ≡ 1) → bit_xor s (s / 2 ^ n * (2 ^ n + w)) ≡ bit_xor (s % 2 ^ n) (s / 2 ^ n * w)
    go (inl e) =
        ap₂ bit_xor (sym (split s n) ∙ ap (λ (x : ℕ). x * 2 ^ n + s % 2 ^ n) e ∙ ap (λ (x : ℕ). x + s % 2 ^ n) (zero-mul (2 ^ n)) ∙ zero-add (s % 2 ^ n))
        (ap (λ (x : ℕ). x * (2 ^ n + w)) e ∙ zero-mul (2 ^ n + w) ∙ sym (zero-mul w) ∙ ap (λ (x : ℕ). x * w) (sym e))
    go (inr e) =
        ap₂ bit_xor (sym (split s n) ∙ ap (λ (x : ℕ). x * 2 ^ n + s % 2 ^ n) e)
        (ap (λ (x : ℕ). x * (2 ^ n + w)) e ∙ one-mul (2 ^ n + w) ∙ ap (λ (x : ℕ). x + w) (sym (one-mul (2 ^ n))))
        ∙ xor_block n 1 1 (s % 2 ^ n) w (mod-lt s (pow_pos n)) k
        ∙ ap (λ (x : ℕ). x + bit_xor (s % 2 ^ n) w) (zero-mul (2 ^ n)) ∙ zero-add (bit_xor (s % 2 ^ n) w)
        ∙ ap (bit_xor (s % 2 ^ n)) (sym (one-mul w) ∙ ap (λ (x : ℕ). x * w) (sym e))

module _ (p : ℕ) (pos : 0 < p) where
  -- one more digit at the end
  pub remainder_digit : (a d : ℕ) → d < 2 → remainder (a * 2 + d) p ≡ reduce (degree p) p (remainder a p * 2 + d)
  unfolding remainder
  remainder_digit a d h =
      remainder_at_step (degree p) p (a * 2 + d)
      ∙ ap₂ (λ (x y : ℕ). reduce (degree p) p (remainder_at (degree p) p x * 2 + y)) (digits_div a h) (digits_mod a h)

  -- x^k times a
  remainder_shl : (a k : ℕ) → remainder (remainder a p * 2 ^ k) p ≡ remainder (a * 2 ^ k) p
  remainder_shl a k =
      ap (λ (x : ℕ). remainder x p) (sym (times_shl (remainder a p) k)) ∙ remainder_times_l p pos a (2 ^ k)
      ∙ ap (λ (x : ℕ). remainder x p) (times_shl a k)

  -- M x^n, with one more group of k digits: from the remainder so far
  pub remainder_append : (m k b n : ℕ) → b < 2 ^ k
      → remainder ((m * 2 ^ k + b) * 2 ^ n) p ≡ remainder (bit_xor (remainder (m * 2 ^ n) p * 2 ^ k) (b * 2 ^ n)) p
  remainder_append m k b n h =
      ap (λ (x : ℕ). remainder x p)
      (ap (λ (x : ℕ). x * 2 ^ n) (sym (xor_shifted m k b h)) ∙ sym (xor_shl (m * 2 ^ k) b n)
      ∙ ap (λ (x : ℕ). bit_xor x (b * 2 ^ n)) (mul_right_comm m (2 ^ k) (2 ^ n)))
      ∙ remainder_xor p pos (m * 2 ^ n * 2 ^ k) (b * 2 ^ n)
      ∙ ap (λ (x : ℕ). bit_xor x (remainder (b * 2 ^ n) p)) (sym (remainder_shl (m * 2 ^ n) k))
      ∙ sym (remainder_xor p pos (remainder (m * 2 ^ n) p * 2 ^ k) (b * 2 ^ n))

  -- the step by a table: the k top digits of the remainder and the k new ones give the entry, the other j digits are shifted
  remainder_table : (n j k r b : ℕ) → j + k ≡ n → degree p ≡ n
      → remainder (bit_xor (r * 2 ^ k) (b * 2 ^ n)) p ≡ bit_xor (r % 2 ^ j * 2 ^ k) (remainder (bit_xor (r / 2 ^ j) b * 2 ^ n) p)
  remainder_table n j k r b whole deg =
      ap (λ (x : ℕ). remainder x p)
      (ap (λ (x : ℕ). bit_xor (x * 2 ^ k) (b * 2 ^ n)) (sym (split r j) ∙ sym (xor_shifted (r / 2 ^ j) j (r % 2 ^ j) low_lt))
      ∙ ap (λ (x : ℕ). bit_xor x (b * 2 ^ n))
      (sym (xor_shl (r / 2 ^ j * 2 ^ j) (r % 2 ^ j) k)
      ∙ ap (λ (x : ℕ). bit_xor x (r % 2 ^ j * 2 ^ k)) (mul_assoc (r / 2 ^ j) (2 ^ j) (2 ^ k) ∙ ap (λ (x : ℕ). r / 2 ^ j * x) power)
      ∙ xor_comm (r / 2 ^ j * 2 ^ n) (r % 2 ^ j * 2 ^ k))
      ∙ xor_assoc (r % 2 ^ j * 2 ^ k) (r / 2 ^ j * 2 ^ n) (b * 2 ^ n)
      ∙ ap (bit_xor (r % 2 ^ j * 2 ^ k)) (xor_shl (r / 2 ^ j) b n))
      ∙ remainder_xor p pos (r % 2 ^ j * 2 ^ k) (bit_xor (r / 2 ^ j) b * 2 ^ n)
      ∙ ap (λ (x : ℕ). bit_xor x (remainder (bit_xor (r / 2 ^ j) b * 2 ^ n) p))
      (remainder_small p pos (r % 2 ^ j * 2 ^ k) (rw (deg, ← whole) (shl_lt j k low_lt)))
    where
      low_lt : r % 2 ^ j < 2 ^ j
      low_lt = mod-lt r (pow_pos j)

      power : 2 ^ j * 2 ^ k ≡ 2 ^ n
      power = rw (← whole) (sym (pow-add 2 j k))

-- ---- x times a word, modulo x^(n+1) + w

module _ (n w a : ℕ) (hw : w < 2 ^ suc n) (ha : a < 2 ^ suc n) where
  pub double_word : times_mod (2 ^ suc n + w) 2 a ≡ bit_xor (a * 2 % 2 ^ suc n) (a / 2 ^ n * w)
  unfolding times_mod
  double_word =
      ap (λ (x : ℕ). remainder x (2 ^ suc n + w)) (times_comm 2 a ∙ times_shl a 1 ∙ sym (add-zero (a * 2)))
      ∙ remainder_digit (2 ^ suc n + w) (word_pos (suc n) w) a 0 (zero-lt-suc 1)
      ∙ ap₂ (λ (x y : ℕ). reduce x (2 ^ suc n + w) (y * 2 + 0)) (word_degree (suc n) w hw)
      (remainder_small (2 ^ suc n + w) (word_pos (suc n) w) a (rw (word_degree (suc n) w hw) ha))
      ∙ ap (reduce (suc n) (2 ^ suc n + w)) (add-zero (a * 2))
      ∙ reduce_word (suc n) w (a * 2) hw (rw (pow-suc 2 (suc n)) (mul-lt-mul_of_pos_right ha (zero-lt-suc 1)))
      ∙ ap (λ (x : ℕ). bit_xor (a * 2 % 2 ^ suc n) (x * w)) (halved a n)
    where
      halved : (a n : ℕ) → a * 2 / 2 ^ suc n ≡ a / 2 ^ n
      halved a n = ap (λ (x : ℕ). a * 2 / x) (pow-suc 2 n) ∙ mul-div-mul_right a (2 ^ n) (zero-lt-suc 1)

-- ---- the division hash by words

-- x^n is w modulo x^n + w
pub division_word : (n w t : ℕ) → w < 2 ^ n → division n w t ≡ times_mod (2 ^ n + w) t w
unfolding division times_mod
division_word n w t h =
    ap (λ (x : ℕ). remainder x p)
    (sym (times_shl t n) ∙ ap (times t) (sym (xor_cancel_r (2 ^ n) w) ∙ ap (λ (x : ℕ). bit_xor x w) whole) ∙ times_xor_r t p w)
    ∙ remainder_add p (word_pos n w) t (times t w)
  where
    p : ℕ
    p = 2 ^ n + w

    whole : bit_xor (2 ^ n) w ≡ p
    whole = ap (λ (x : ℕ). bit_xor x w) (sym (one-mul (2 ^ n))) ∙ xor_shifted 1 n w h ∙ ap (λ (x : ℕ). x + w) (one-mul (2 ^ n))

-- one lookup: the word is shifted up by k digits, and the entry at its top digits and the new ones is added
pub table_step : (n k w r b : ℕ) → k ≤ n → w < 2 ^ n
    → bit_xor (r * 2 ^ k % 2 ^ n) (division n w (bit_xor (r / 2 ^ (n - k)) b)) ≡ remainder (bit_xor (r * 2 ^ k) (b * 2 ^ n)) (2 ^ n + w)
unfolding division
table_step n k w r b l h =
    ap (λ (x : ℕ). bit_xor x (remainder (bit_xor (r / 2 ^ j) b * 2 ^ n) (2 ^ n + w))) low
    ∙ sym (remainder_table (2 ^ n + w) (word_pos n w) n j k r b whole (word_degree n w h))
  where
    j : ℕ
    j = n - k

    whole : j + k ≡ n
    whole = omega arith

    low : r * 2 ^ k % 2 ^ n ≡ r % 2 ^ j * 2 ^ k
    low =
        ap (λ (m : ℕ). r * 2 ^ k % 2 ^ m) (sym whole) ∙ mod-pow-add (r * 2 ^ k) j k
        ∙ ap₂ (λ (x y : ℕ). x % 2 ^ j * 2 ^ k + y) (shl-shr r k) (mul-mod_left r (2 ^ k)) ∙ add-zero (r % 2 ^ j * 2 ^ k)

-- ---- one turn of a product, from the lowest digit on

pub times_turn : (p s x y : ℕ) → 0 < p → x < 2 ^ degree p
    → bit_xor (bit_xor s (y % 2 * x)) (times_mod p (y / 2) (times_mod p 2 x)) ≡ bit_xor s (times_mod p y x)
times_turn p s x y pos h =
    xor_assoc s (y % 2 * x) (times_mod p (y / 2) (times_mod p 2 x))
    ∙ ap (bit_xor s) (sym digit)
  where
    small : y % 2 * x < 2 ^ degree p
    small = lt_of_le_of_lt (le_trans (mul-le-mul_right x (le_of_suc-le-suc (mod-lt y (zero-lt-suc 1)))) (le_of_eq (one-mul x))) h

    digit : times_mod p y x ≡ bit_xor (y % 2 * x) (times_mod p (y / 2) (times_mod p 2 x))
    digit = unfold times_mod in
        (ap (λ (z : ℕ). remainder z p) (times_step y x)
        ∙ remainder_xor p pos (times (y / 2) x * 2) (y % 2 * x)
        ∙ xor_comm (remainder (times (y / 2) x * 2) p) (remainder (y % 2 * x) p)
        ∙ ap₂ bit_xor (remainder_small p pos (y % 2 * x) small)
        (ap (λ (z : ℕ). remainder z p) (sym (times_dbl_r (y / 2) x) ∙ ap (times (y / 2)) (sym (times_shl x 1) ∙ times_comm x 2))
        ∙ sym (remainder_times_r p pos (y / 2) (times 2 x))))
