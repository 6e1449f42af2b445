-- A number in decimal digits spells that number.
use Rattle.std.proofs.Common.{◌≡◌, ℕ, ◌+◌, ◌-◌, ◌*◌, ◌<◌, ◌≤◌, true, not, eqb, leb, List, [], ◌∷◌, map, length, get_or, fold, sym, refl, ap, ◌∙◌, arith, lit≤}
use lib.ListN.{length-map}
use Rattle.std.specs.Int.Digits.{digits_of, number_from_digits_after}
use Rattle.std.specs.List.{AllByRecursion}
use Rattle.std.proofs.lemmas.Int.Digits.{all_below_base_digits_of, first_digits_of, length-digits_of-le, number_digits_of}
use Rattle.std.proofs.ByRecursion.{All-map, All-weaker}
use Rattle.std.proofs.lemmas.Bool.{and_from, not_from_false, le-leb, ne_eqb}
use Rattle.line_reader.specs.Grammar.{digit, leads, Number}
use Rattle.line_reader.specs.Texts.{decimal}

digit_byte : (d : ℕ) → d < 10 → digit (48 + d) ≡ true
digit_byte d h = and_from (leb 48 (48 + d)) (leb (48 + d) 57) (le-leb 48 (48 + d) (omega arith)) (le-leb (48 + d) 57 (omega arith))

lead_byte : (d : ℕ) → 0 < d → d < 10 → leads (48 + d) ≡ true
lead_byte d l h =
    and_from (digit (48 + d)) (not (eqb (48 + d) 48)) (digit_byte d h) (not_from_false (eqb (48 + d) 48) (ne_eqb (48 + d) 48 (λ e. omega arith)))

worth_after : (a : ℕ) (ds : List ℕ) → fold (λ (n b : ℕ). 10 * n + (b - 48)) a (map (λ (d : ℕ). 48 + d) ds) ≡ number_from_digits_after 10 a ds
worth_after a [] = refl
worth_after a (d ∷ ds) =
    let e : 10 * a + (48 + d - 48) ≡ a * 10 + d = omega arith in
    ap (λ (x : ℕ). fold (λ (n b : ℕ). 10 * n + (b - 48)) x (map (λ (d : ℕ). 48 + d) ds)) e ∙ worth_after (a * 10 + d) ds

first_byte : (ds : List ℕ) → 0 < get_or ds 0 0 → AllByRecursion (λ (d : ℕ). d < 10) ds
    → (1 ≤ length (map (λ (d : ℕ). 48 + d) ds)) × (leads (get_or (map (λ (d : ℕ). 48 + d) ds) 0 0) ≡ true)
first_byte [] h under = absurd (omega arith)
first_byte (d ∷ ds) h under = (omega arith, lead_byte d h under.0)

pub decimal_number : (n : ℕ) → 1 ≤ n → n ≤ 1000 → Number (decimal n) n
decimal_number n low high =
    let two : 2 ≤ 10 = lit≤ tt in
    let ds = digits_of 10 n in
    let under = all_below_base_digits_of 10 n two in
    let f = first_byte ds (first_digits_of 10 n two low) under in
    record {
      digits = All-map (λ (b : ℕ). digit b ≡ true) (λ (d : ℕ). 48 + d) ds (All-weaker (λ (d : ℕ). d < 10) (λ (d : ℕ). digit (48 + d) ≡ true) digit_byte ds under);
      some = f.0;
      few = rw length-map (length-digits_of-le 10 5 n two (let k : n < 100000 = omega arith in k));
      lead = f.1;
      value = sym (worth_after 0 ds ∙ number_digits_of 10 n two);
    }
