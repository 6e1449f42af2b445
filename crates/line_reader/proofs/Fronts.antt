-- One step of a stage on a text that is taken apart as its first byte and the rest.
use Rattle.std.proofs.Common.{◌≡◌, ℕ, zero, suc, ◌+◌, ◌-◌, ◌*◌, ◌^◌, ◌<◌, ◌≤◌, true, leb, List, [], ◌∷◌, length, take, drop, Some, None, Option, ◌≢◌, sym, refl, ap, ◌∙◌, add-one, subst, arith}
use native.Mathlib.Nat.{pow-succ'}
use Rattle.std.proofs.lemmas.Slice.{between_to_end, first_rest}
use Rattle.std.proofs.lemmas.Bool.{and_parts, eq-eqb, leb-true, ne_eqb}
use Rattle.std.specs.List.{AllWithin, HoldsAt}
use Rattle.std.specs.Option.{MatchOption, unwrap_or}
use Rattle.line_reader.specs.Grammar.{digit}
use Rattle.line_reader.specs.Reading.{Stage, first, past_remark, read_digits}

-- what follows the first byte
abbrev pub rest_of : List ℕ → List ℕ
rest_of text = take (length text - 1) (drop 1 text)

pub first_is : (text : List ℕ) (b : ℕ) → 0 < length text → first text ≡ b → text ≡ b ∷ rest_of text
first_is text b some e = first_rest text 0 some ∙ ap (λ x. x ∷ rest_of text) e

digits_step : (n v : ℕ) (text : List ℕ) → 0 < length text → digit (first text) ≡ true → read_digits (suc n) v text ≡ read_digits n (10 * v + (first text - 48)) (rest_of text)
digits_step n v text some d = ap (read_digits (suc n) v) (first_is text (first text) some refl) ∙ rw d

-- one digit more
digit_more : (n v b : ℕ) → v < 10 ^ n → digit b ≡ true → 10 * v + (b - 48) < 10 ^ (n + 1)
digit_more n v b small h =
    let high : b ≤ 57 = leb-true b 57 (and_parts (leb 48 b) (leb b 57) h).1 in
    rw (add-one, pow-succ') (omega arith)

-- a number is read on behind n digits that are worth v
abbrev pub ReadOn : Stage ℕ → ℕ → ℕ → List ℕ → Type 0
ReadOn number n v text = (number ≡ read_digits (5 - n) v text) × (v < 10 ^ n)

-- and behind one more
pub read_on : (number : Stage ℕ) (text : List ℕ) (n v d : ℕ) → ReadOn number n v text → n < 5 → 0 < length text → true ≡ digit (first text) → d ≡ first text - 48
    → ReadOn number (n + 1) (10 * v + d) (rest_of text)
read_on number text n v d before few some is value =
    let left : 5 - n ≡ suc (5 - (n + 1)) = omega (arith, few) in (
      before.0 ∙ ap (λ (k : ℕ). read_digits k v text) left ∙ digits_step (5 - (n + 1)) v text some (sym is)
          ∙ ap (λ (k : ℕ). read_digits (5 - (n + 1)) (10 * v + k) (rest_of text)) (sym value),
      subst (λ (k : ℕ). 10 * v + k < 10 ^ (n + 1)) (sym value) (digit_more n v (first text) before.1 (sym is)),
    )

remark_to : (t : List ℕ) (e : ℕ) → e ≤ length t → AllWithin (λ b. b ≢ 10) t 0 e → (e < length t → HoldsAt (λ b. b ≡ 10) t e) → past_remark t ≡ drop e t
remark_to [] zero le plain stop = refl
remark_to [] (suc e) le plain stop = absurd (omega arith)
remark_to (b ∷ t) zero le plain stop = rw (eq-eqb b 10 (stop (omega arith) 0))
remark_to (b ∷ t) (suc e) le plain stop =
    rw (ne_eqb b 10 (plain 0 0 (omega arith) (omega arith)))
    (remark_to t e (omega arith) (λ k d l h. plain (suc k) d (omega arith) (omega arith)) (λ h d. stop (omega arith) d))

-- a remark ends at the first line feed, or with the text
pub remark_end : (t : List ℕ) (r : Option ℕ) → MatchOption r (AllWithin (λ b. b ≢ 10) t 0 (length t)) (λ e. (e < length t) × HoldsAt (λ b. b ≡ 10) t e × AllWithin (λ b. b ≢ 10) t 0 e)
    → past_remark t ≡ take (length t - unwrap_or r (length t)) (drop (unwrap_or r (length t)) t)
remark_end t (Some e) h = remark_to t e (omega (arith, h.0)) h.2 (λ _. h.1) ∙ sym (between_to_end t e (length t) (omega arith))
remark_end t None h = remark_to t (length t) (omega arith) h (λ l. absurd (omega arith)) ∙ sym (between_to_end t (length t) (length t) (omega arith))
