-- Fourth powers modulo p: additive, and those of the powers of x one after the other.
use Rattle.std.proofs.Common.{◌≡◌, ℕ, zero, suc, ◌+◌, ◌*◌, ◌^◌, ◌<◌, ◌≤◌, ◌≢◌, List, [], length, get_or, set, sym, ap, ◌∙◌, arith, lt_irrefl, suc-le-suc, zero-le, pow-add, pow-suc, mul_assoc, below_more, get_or-set_other, get_or-set_same}
use Rattle.hashes.specs.Additive.{Additive}
use Rattle.hashes.specs.Division.{division}
use Rattle.hashes.specs.Factors.{frobenius_start}
use Rattle.hashes.specs.FieldLemmas.{mod_assoc, mod_one_l, mod_rem_l, mod_rem_r, mod_xor_l}
use Rattle.hashes.specs.Frobenius.{frobenius, frobenius_add, frobenius_times, frobenius_xor}
use Rattle.hashes.specs.Polynomial.{degree, remainder, times_mod}
use Rattle.hashes.specs.Remainder.{remainder_small}
use Rattle.hashes.specs.DivisionSteps.{division_of_one}
use Rattle.hashes.specs.Words.{times_shl, word_degree, word_pos}

module _ (p : ℕ) (pos : 0 < p) where
  shifted : (a i : ℕ) → times_mod p a (2 ^ i) ≡ remainder (a * 2 ^ i) p
  unfolding times_mod
  shifted a i = ap (λ (x : ℕ). remainder x p) (times_shl a i)

  powers : (i j : ℕ) → times_mod p (2 ^ i) (2 ^ j) ≡ remainder (2 ^ (i + j)) p
  powers i j = shifted (2 ^ i) j ∙ ap (λ (x : ℕ). remainder x p) (sym (pow-add 2 i j))

  -- a power of x squared k times
  frobenius_x : (k i : ℕ) → 1 ≤ k → frobenius p k (2 ^ i) ≡ remainder (2 ^ (i * 2 ^ k)) p
  unfolding frobenius
  frobenius_x zero i h = absurd (lt_irrefl 0 h)
  frobenius_x (suc zero) i h = powers i i ∙ ap (λ (n : ℕ). remainder (2 ^ n) p) (omega arith)
  frobenius_x (suc (suc k)) i h =
      ap (λ (x : ℕ). times_mod p x x) (frobenius_x (suc k) i (suc-le-suc zero-le))
      ∙ mod_rem_l p pos (2 ^ (i * 2 ^ suc k)) (remainder (2 ^ (i * 2 ^ suc k)) p) ∙ mod_rem_r p pos (2 ^ (i * 2 ^ suc k)) (2 ^ (i * 2 ^ suc k))
      ∙ powers (i * 2 ^ suc k) (i * 2 ^ suc k)
      ∙ ap (λ (n : ℕ). remainder (2 ^ n) p) (sym twice)
    where
      twice : i * 2 ^ suc (suc k) ≡ i * 2 ^ suc k + i * 2 ^ suc k
      twice = ap (λ (n : ℕ). i * n) (pow-suc 2 (suc k)) ∙ sym (mul_assoc i (2 ^ suc k) 2) ∙ omega arith

  pub fourth_add : Additive (frobenius p 2)
  fourth_add = frobenius_xor p pos 2

  fourth_one : 1 < 2 ^ degree p → 1 ≡ frobenius p 2 1
  fourth_one h = sym (frobenius_x 2 0 (suc-le-suc zero-le) ∙ remainder_small p pos 1 h)

  -- the next power of x
  fourth_up : (i : ℕ) → times_mod p (2 ^ 4) (frobenius p 2 (2 ^ i)) ≡ frobenius p 2 (2 ^ (i + 1))
  fourth_up i =
      ap (times_mod p (2 ^ 4)) (frobenius_x 2 i (suc-le-suc zero-le)) ∙ mod_rem_r p pos (2 ^ 4) (2 ^ (i * 2 ^ 2)) ∙ powers 4 (i * 2 ^ 2)
      ∙ ap (λ (n : ℕ). remainder (2 ^ n) p) next ∙ sym (frobenius_x 2 (i + 1) (suc-le-suc zero-le))
    where
      next : 4 + i * 4 ≡ (i + 1) * 4
      next = omega arith

  fourth_shifted : (d i : ℕ) → times_mod p (frobenius p 2 d) (frobenius p 2 (2 ^ i)) ≡ frobenius p 2 (d * 2 ^ i)
  fourth_shifted d i =
      sym (frobenius_times p pos 2 d (2 ^ i)) ∙ ap (frobenius p 2) (shifted d i) ∙ frobenius_start p 2 (d * 2 ^ i) pos (suc-le-suc zero-le)

  -- ---- the fourth power of d times a

  pub entry_add : (a : ℕ) → Additive (λ d. times_mod p (frobenius p 2 d) a)
  entry_add a d e = ap (λ (x : ℕ). times_mod p x a) (fourth_add d e) ∙ mod_xor_l p pos (frobenius p 2 d) (frobenius p 2 e) a

  entry_one : (a : ℕ) → 1 < 2 ^ degree p → a < 2 ^ degree p → a ≡ times_mod p (frobenius p 2 1) a
  entry_one a one h = sym (ap (λ (x : ℕ). times_mod p x a) (sym (fourth_one one)) ∙ mod_one_l p pos a ∙ remainder_small p pos a h)

  pub entry_up : (a k : ℕ) → times_mod p (2 ^ 4) (times_mod p (frobenius p 2 (2 ^ k)) a) ≡ times_mod p (frobenius p 2 (2 ^ (k + 1))) a
  entry_up a k = sym (mod_assoc p pos (2 ^ 4) (frobenius p 2 (2 ^ k)) a) ∙ ap (λ (x : ℕ). times_mod p x a) (fourth_up k)

  -- two squarings more
  pub fourth_more : (k a : ℕ) → frobenius p 2 (frobenius p (k * 2) a) ≡ frobenius p ((k + 1) * 2) a
  fourth_more k a = sym (frobenius_add p pos 2 (k * 2) a) ∙ ap (λ (n : ℕ). frobenius p n a) (omega arith)

-- ---- modulo x^n + w

module _ (n w : ℕ) (h : w < 2 ^ n) where
  -- a word is of lower degree
  word_small : (a : ℕ) → a < 2 ^ n → a < 2 ^ degree (2 ^ n + w)
  word_small a k = rw (word_degree n w h) k

  pub word_fourth_one : 1 < 2 ^ n → 1 ≡ frobenius (2 ^ n + w) 2 1
  word_fourth_one one = fourth_one (2 ^ n + w) (word_pos n w) (word_small 1 one)

  pub word_entry_one : (a : ℕ) → 1 < 2 ^ n → a < 2 ^ n → a ≡ times_mod (2 ^ n + w) (frobenius (2 ^ n + w) 2 1) a
  word_entry_one a one k = entry_one (2 ^ n + w) (word_pos n w) a (word_small 1 one) (word_small a k)

-- x squared six times is x^64, which is w
pub six_squarings : (w : ℕ) → w < 2 ^ 64 → frobenius (2 ^ 64 + w) 6 2 ≡ w
six_squarings w h = frobenius_x (2 ^ 64 + w) (word_pos 64 w) 6 1 (suc-le-suc zero-le) ∙ top
  where
    top : remainder (2 ^ 64) (2 ^ 64 + w) ≡ w
    top = unfold division in division_of_one 64 w h

-- ---- the rows of the table

-- a row has the fourth powers of the half bytes in place j
abbrev pub Row : ℕ → ℕ → List ℕ → Type 0
Row p j row = (d : ℕ) → d < 16 → get_or row d 0 ≡ frobenius p 2 (d * 2 ^ (4 * j))

-- the first n rows
abbrev pub Rows : ℕ → ℕ → List (List ℕ) → Type 0
Rows p n rows = (j : ℕ) → j < n → Row p j (get_or rows j [])

module _ (p : ℕ) (pos : 0 < p) (i a : ℕ) (power : a ≡ frobenius p 2 (2 ^ (4 * i))) where
  -- one row more: it is made from a, the fourth power of x^(4 i)
  pub rows_more : (rows : List (List ℕ)) (row : List ℕ) → i < length rows → ((d : ℕ) → d < 16 → get_or row d 0 ≡ times_mod p (frobenius p 2 d) a)
      → Rows p i rows → Rows p (i + 1) (set rows i row)
  rows_more rows row within filled before =
      below_more _ _
      (λ k l d h. let ne : k ≢ i = omega arith in rw get_or-set_other (before k l d h))
      (λ d h. rw get_or-set_same (filled d h ∙ ap (times_mod p (frobenius p 2 d)) power ∙ fourth_shifted p pos d (4 * i)))

  -- x^4 times the entry at x^3 makes the next row
  pub row_power : (b c : ℕ) → b ≡ times_mod p (frobenius p 2 8) a → c ≡ times_mod p (2 ^ 4) b → c ≡ frobenius p 2 (2 ^ (4 * (i + 1)))
  row_power b c e f =
      f ∙ ap (times_mod p (2 ^ 4)) (e ∙ ap (times_mod p (frobenius p 2 8)) power ∙ fourth_shifted p pos 8 (4 * i) ∙ ap (frobenius p 2) third)
      ∙ fourth_up p pos (3 + 4 * i)
      ∙ ap (λ (n : ℕ). frobenius p 2 (2 ^ n)) (omega arith)
    where
      third : 8 * 2 ^ (4 * i) ≡ 2 ^ (3 + 4 * i)
      third = sym (pow-add 2 3 (4 * i))
