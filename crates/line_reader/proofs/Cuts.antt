-- Cutting a text into lines.
use Rattle.std.proofs.Common.{◌≡◌, ℕ, zero, suc, ◌+◌, ◌*◌, ◌<◌, ◌≤◌, Bool, true, false, not, cond, eqb, ltb, List, [], ◌∷◌, map, length, get_or, take, drop, Some, None, Option, Bor, inl, inr, sym, ap, ◌∙◌, suc-le-suc, le_of_suc-le-suc, add-one, arith}
use Rattle.std.specs.List.{position_or_len, prefix_len}
use Rattle.std.specs.Option.{unwrap_or}
use Rattle.std.specs.Slice.{IsGetRangeResult}
use Rattle.std.proofs.lemmas.List.{drop-drop, drop_all, length-drop}
use Rattle.std.proofs.lemmas.List.Sums.{fails_before_first, passes_at_first, position_or_len_is, prefix_len-le-length}
use Rattle.std.proofs.lemmas.Simd.{length-chunk, run_in_chunk_fails, run_in_chunk_stops, trailing_mask_l}
use Rattle.std.proofs.lemmas.Slice.{between_to_end}
use Rattle.std.proofs.lemmas.Bool.{both_ways, cases_lt, cond-false, cond-true, eq-eqb, eqb-true, le-ltb, lt-ltb, ne_eqb}
use Rattle.line_reader.specs.Texts.{TakesLine, lines_of, on_first}
use lib.Count.{count_trailing_zeros}
use lib.Lanes.{chunk, mask_l}

-- the first line ends at the first 0A, or at the end
first_line : (t : List ℕ) (e : ℕ) → 0 < length t → e ≤ length t → ((k : ℕ) → k < e → get_or t k 0 ≡ 10 → ⊥) → (e < length t → get_or t e 0 ≡ 10)
    → lines_of t ≡ take e t ∷ lines_of (drop (suc e) t)
first_line [] e pos le plain stop = absurd (omega arith)
first_line (b ∷ bs) zero pos le plain stop = ap (λ n. cond (eqb n 10) ([] ∷ lines_of bs) (on_first n (lines_of bs))) (stop pos)
first_line (b ∷ []) (suc zero) pos le plain stop = cond-false (eqb b 10) ([] ∷ []) ((b ∷ []) ∷ []) (ne_eqb b 10 (plain 0 (omega arith)))
first_line (b ∷ []) (suc (suc e)) pos le plain stop = absurd (omega arith)
first_line (b ∷ c ∷ cs) (suc e) pos le plain stop =
    cond-false (eqb b 10) ([] ∷ lines_of (c ∷ cs)) (on_first b (lines_of (c ∷ cs))) (ne_eqb b 10 (plain 0 (omega arith)))
    ∙ ap (on_first b) (first_line (c ∷ cs) e (omega arith) (le_of_suc-le-suc le) (λ k h. plain (suc k) (suc-le-suc h)) (λ h. stop (suc-le-suc h)))

-- what is left after the first byte, if there is one
pub after_first : (s : List ℕ) (r : Option (Bor (List ℕ))) (none : Bor (List ℕ)) → none.now ≡ [] → IsGetRangeResult s 1 (length s) r → (unwrap_or r none).now ≡ drop 1 s
after_first s (Some rest) none e p = p.0.2 ∙ between_to_end s 1 (length s) (omega arith)
after_first s None none e p = e ∙ sym (drop_all 1 s (elim p.0 [ inl h ↦ omega (arith, h) | inr h ↦ omega (arith, h) ]))

-- a line taken by the place of the first 0A, or the length if there is none
pub takes_line : (t line after later : List ℕ) (e : ℕ) → e ≡ position_or_len (λ b. eqb b 10) t
    → 0 < length t → line ≡ take e t → after ≡ drop e t → later ≡ drop 1 after → TakesLine t (Some line) later
takes_line t line after later e f pos l a n = (cut ∙ sym (rw (l, left)), less)
  where
    feed : ℕ → Bool
    feed b = eqb b 10

    left : later ≡ drop (suc e) t
    left = n ∙ ap (drop 1) a ∙ drop-drop 1 e t ∙ ap (λ (k : ℕ). drop k t) (add-one e)

    cut : lines_of t ≡ take e t ∷ lines_of (drop (suc e) t)
    cut = first_line t e pos (omega (arith, f, prefix_len-le-length (λ b. not (feed b)) t))
        (λ k h is. both_ways _ (fails_before_first feed t k 0 (omega (arith, f))) (eq-eqb _ 10 is))
        (λ h. ap (λ i. get_or t i 0) f ∙ eqb-true _ 10 (passes_at_first feed t 0 (omega (arith, f))))

    less : length later < length t
    less = omega (arith, ap (λ (x : List ℕ). length x) left ∙ length-drop (suc e) t, pos)

-- where a bit is set, some element passes
some_passes : {X : Type 0} (p : X → Bool) (xs : List X) → 0 < mask_l (map p xs) → prefix_len (λ x. not (p x)) xs < length xs
some_passes p [] some = absurd (omega arith)
some_passes p (x ∷ xs) some = step (p x) (mask_l (map p xs)) (prefix_len (λ y. not (p y)) xs) (length xs) some (some_passes p xs)
  where
    step : (b : Bool) (n m l : ℕ) → 0 < cond b 1 0 + 2 * n → (0 < n → m < l) → cond (not b) (1 + m) 0 < suc l
    step true n m l s f = omega arith
    step false n m l s f = omega (arith, f (omega arith))

-- the lowest bit of a mask that has a bit for each 0A among the first sixteen bytes
pub first_in_mask : (t : List ℕ) (m : ℕ) → 16 ≤ length t → m ≡ mask_l (map (λ b. eqb b 10) (chunk 0 16 t)) → 0 < m → count_trailing_zeros 64 m ≡ position_or_len (λ b. eqb b 10) t
first_in_mask t m room is some =
    sym (position_or_len_is feed t r 0 (omega (arith, few)) (λ k h. run_in_chunk_fails feed t 0 16 r 0 room counted k (omega arith) (omega (arith, h)))
    (λ _. ap (λ i. feed (get_or t i 0)) from_front ∙ run_in_chunk_stops feed t 0 16 r 0 room counted few))
  where
    feed : ℕ → Bool
    feed b = eqb b 10

    r : ℕ
    r = count_trailing_zeros 64 m

    front : List ℕ
    front = chunk 0 16 t

    long : length front ≡ 16
    long = length-chunk 0 16 t room

    counted : r ≡ prefix_len (λ b. not (feed b)) front
    counted = ap (count_trailing_zeros 64) is ∙ trailing_mask_l feed 64 front (omega (arith, long)) (omega (arith, is))

    from_front : r ≡ 0 + r
    from_front = omega arith

    few : r < 16
    few = omega (arith, counted, long, some_passes feed front (omega (arith, is)))

-- the place that a search gives, or the length
pub place_or_length : (n m : ℕ) → n ≤ m → unwrap_or (cond (ltb n m) (Some n) None) m ≡ n
place_or_length n m le =
    elim (cases_lt n m) [
      | inl lt ↦ ap (λ o. unwrap_or o m) (cond-true _ _ _ (lt-ltb n m lt))
      | inr ge ↦ ap (λ o. unwrap_or o m) (cond-false _ _ _ (le-ltb n m ge)) ∙ omega arith
    ]
