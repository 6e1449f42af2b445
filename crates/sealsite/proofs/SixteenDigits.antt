-- What the library writes for `{:016X}` are sixteen hexadecimal digits, the highest first.
use Rattle.std.proofs.Common.{◌≡◌, ℕ, zero, suc, ◌+◌, ◌-◌, ◌/◌, ◌%◌, ◌^◌, ◌<◌, ◌≤◌, Bool, true, false, cond}
use Rattle.std.proofs.Common.{List, [], ◌∷◌, ◌++◌, replicate, length, append_assoc, append-nil}
use Rattle.std.proofs.Common.{refl, sym, ap, ◌∙◌, arith, ⊎_elim}
use Rattle.std.proofs.lemmas.Bool.{cases_lt, eq-eqb, ne_eqb}
use Rattle.std.proofs.Math.Nat.{div-div-eq-div-mul, div-one, pow-succ', zero-div}
use Rattle.std.specs.Fmt.{digits, digits_onto, padded_integral, char_count, format_spec}
use Rattle.sealsite.specs.AnswerText.{hex_digit, hex_digits}

-- the last digit, which stands at the end
abbrev last_of : ℕ → ℕ
last_of w = hex_digit (w % 16)

last_digit : (k w : ℕ) → hex_digits (suc k) w ≡ hex_digits k (w / 16) ++ (last_of w ∷ [])
unfolding hex_digits
last_digit zero w = ap (λ d. last_of d ∷ []) (div-one w)
last_digit (suc k) w =
    let high : w / 16 ^ suc k ≡ w / 16 / 16 ^ k =
    ap (λ p. w / p) (pow-succ' 16 k) ∙ sym (div-div-eq-div-mul w 16 (16 ^ k)) in
    λ i. last_of (high i) ∷ last_digit k w i

all_zeros : (k : ℕ) → hex_digits k 0 ≡ replicate k 48
unfolding hex_digits
all_zeros zero = refl
all_zeros (suc k) = λ i. last_of (zero-div (16 ^ k) i) ∷ all_zeros k i

-- what the library writes before acc, with so many digits at most
abbrev written : ℕ → ℕ → List ℕ → List ℕ
written fuel w acc = digits_onto fuel 16 true w acc

module _ (fuel w : ℕ) (acc : List ℕ) where
  by_test : Bool → List ℕ
  by_test b = cond b (last_of w ∷ acc) (written fuel (w / 16) (last_of w ∷ acc))

  written_last : w < 16 → written (suc fuel) w acc ≡ last_of w ∷ acc
  unfolding by_test
  written_last small = ap by_test (eq-eqb (w / 16) 0 (omega arith))

  written_next : 16 ≤ w → written (suc fuel) w acc ≡ written fuel (w / 16) (last_of w ∷ acc)
  unfolding by_test
  written_next large = ap by_test (ne_eqb (w / 16) 0 (λ e. omega arith))

-- what is written lacks some zeros in front
pub record Padded (k w : ℕ) (acc text : List ℕ) : Type 0 where
  pub zeros : ℕ
  pub count : zeros + length text ≡ suc k + length acc
  pub whole : replicate zeros 48 ++ text ≡ hex_digits (suc k) w ++ acc

one_digit : (k fuel w : ℕ) (acc : List ℕ) → w < 16 → Padded k w acc (written (suc fuel) w acc)
one_digit k fuel w acc small =
    let last = written_last fuel w acc small in
    let front : hex_digits k (w / 16) ≡ replicate k 48 = ap (hex_digits k) (omega arith) ∙ all_zeros k in
    let all = last_digit k w ∙ ap (λ l. l ++ (last_of w ∷ [])) front in
    record {
      zeros = k;
      count = omega (arith, ap length last);
      whole = ap (λ l. replicate k 48 ++ l) last
          ∙ sym (append_assoc (replicate k 48) (last_of w ∷ []) acc)
          ∙ sym (ap (λ l. l ++ acc) all);
    }

more_digits : (k fuel w : ℕ) (acc : List ℕ) → 16 ≤ w → Padded k (w / 16) (last_of w ∷ acc) (written fuel (w / 16) (last_of w ∷ acc))
    → Padded (suc k) w acc (written (suc fuel) w acc)
more_digits k fuel w acc large front =
    let next = written_next fuel w acc large in
    record {
      zeros = front.zeros;
      count = omega (arith, ap length next, front.count);
      whole = ap (λ l. replicate front.zeros 48 ++ l) next ∙ front.whole
          ∙ sym (append_assoc (hex_digits (suc k) (w / 16)) (last_of w ∷ []) acc)
          ∙ sym (ap (λ l. l ++ acc) (last_digit (suc k) w));
    }

padded : (k fuel w : ℕ) (acc : List ℕ) → w < 16 ^ suc k → k < fuel → Padded k w acc (written fuel w acc)
padded k zero w acc fits enough = absurd (omega arith)
padded zero (suc fuel) w acc fits enough = one_digit zero fuel w acc (omega arith)
padded (suc k) (suc fuel) w acc fits enough = ⊎_elim
    (λ small. one_digit (suc k) fuel w acc small)
    (λ large. more_digits k fuel w acc large
    (padded k fuel (w / 16) (last_of w ∷ acc) (omega (arith, pow-succ' 16 (suc k))) (omega arith)))
    (cases_lt w 16)

pub sixteen_digits : (w : ℕ) → w < 2 ^ 64
    → padded_integral (format_spec 32 0 4 16 (2 ^ 64 - 1)) false [] (digits 16 true w) ≡ hex_digits 16 w
unfolding padded_integral char_count digits
sixteen_digits w small =
    let text = written 64 w [] in
    let p = padded 15 64 w [] small (omega arith) in
    let zeros : 16 - length text - 0 - 0 ≡ p.zeros = omega (arith, p.count) in
    (λ i. replicate (zeros i) 48 ++ append-nil text i) ∙ p.whole ∙ append-nil _
