-- The division hash: few keys make two messages differ by a given word. For any width n of a word.
use Rattle.std.specs.Prelude.{◌≡◌, ℕ, suc, ◌+◌, ◌*◌, ◌^◌, ◌<◌, ◌≤◌, ◌≢◌, List, length, bit_xor}
use Rattle.std.proofs.Common.{sym, ap, ap₂, ◌∙◌, add_left_cancel, pos_of_ne-zero, le_trans, le_of_suc-le-suc, zero-lt-suc, mul-pos, suc-add, le-add_right, pow_pos, pow-add}
use Rattle.std.proofs.lemmas.Nat.{xor_lt}
use Rattle.std.specs.Int.Bits.{xor_self, xor_shifted}
use Rattle.std.proofs.Math.Arith.{digits_lt}
use Rattle.hashes.specs.Lists.{◌∈◌, Distinct}
use Rattle.hashes.specs.Polynomial.{degree, remainder, Divides}
use Rattle.hashes.specs.Irreducible.{Irreducible}
use Rattle.hashes.specs.Division.{division}
use Rattle.hashes.specs.Xor.{xor_zero, xor_shl}
use Rattle.hashes.specs.Degree.{degree_lt}
use Rattle.hashes.specs.Remainder.{remainder_xor, remainder_small}
use Rattle.hashes.specs.Divisors.{divides_of_remainder, irreducible_divisors}
use Rattle.hashes.specs.Words.{word_degree, word_pos}

-- Messages of degree b at most, and distinct keys that make their hashes differ by d.
pub division_law : (n b m m' d : ℕ) → m ≢ m' → m < 2 ^ suc b → m' < 2 ^ suc b → d < 2 ^ n → (ws : List ℕ) → Distinct ws
    → ((w : ℕ) → w ∈ ws → (w < 2 ^ n) × Irreducible (2 ^ n + w) × (bit_xor (division n w m) (division n w m') ≡ d)) → length ws * n ≤ b + n
unfolding division
division_law n b m m' d ne hm hm' hd ws apart all =
    le_trans (irreducible_divisors (λ w. 2 ^ n + w) (λ j k e. add_left_cancel (2 ^ n) e) n N N_pos ws apart divides)
    (le_of_suc-le-suc (degree_lt (suc (b + n)) N (zero-lt-suc (b + n)) N_lt))
  where
    -- what every such key divides
    N : ℕ
    N = bit_xor (bit_xor m m' * 2 ^ n) d

    N_is : N ≡ bit_xor m m' * 2 ^ n + d
    N_is = xor_shifted (bit_xor m m') n d hd

    N_pos : 0 < N
    N_pos = rw N_is (le_trans (mul-pos (pos_of_ne-zero (λ z. ne (xor_zero m m' z))) (pow_pos n)) (le-add_right (bit_xor m m' * 2 ^ n) d))

    N_lt : N < 2 ^ suc (b + n)
    N_lt = rw (N_is, ← (suc-add b n), pow-add 2 (suc b) n) (digits_lt (xor_lt (suc b) m m' hm hm') hd)

    divides : (w : ℕ) → w ∈ ws → Irreducible (2 ^ n + w) × (degree (2 ^ n + w) ≡ n) × Divides (2 ^ n + w) N
    divides w k =
        let (hw, irr, same) = all w k in
        let pos : 0 < 2 ^ n + w = word_pos n w in (
          irr,
          word_degree n w hw,
          divides_of_remainder (2 ^ n + w) N pos
              (remainder_xor (2 ^ n + w) pos (bit_xor m m' * 2 ^ n) d
              ∙ ap₂ bit_xor (ap (λ (x : ℕ). remainder x (2 ^ n + w)) (sym (xor_shl m m' n)) ∙ remainder_xor (2 ^ n + w) pos (m * 2 ^ n) (m' * 2 ^ n) ∙ same)
              (remainder_small (2 ^ n + w) pos d (rw (word_degree n w hw) hd))
              ∙ xor_self d),
        )
