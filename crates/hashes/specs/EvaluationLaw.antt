-- The evaluation hash: few points make two lists of words differ by a given word.
use Rattle.std.specs.Prelude.{◌≡◌, ℕ, zero, suc, ◌+◌, ◌^◌, ◌<◌, ◌≤◌, ◌≢◌, ◌⊎◌, List, [], ◌∷◌, length, bit_xor}
use Rattle.std.proofs.Math.Path.{refl, sym, ap}
use Rattle.std.proofs.Common.{ap₂, ◌∙◌, add-zero, zero-add, add-suc, suc-add, le_trans, arith, pow_pos}
use Rattle.std.proofs.Math.Logic.{inl, inr}
use mathlib.Core.List.{head-eq_of_cons-eq, tail-eq_of_cons-eq}
use Rattle.std.proofs.Math.Nat.{suc-ne-zero, suc_inj, le_step, le_of_eq}
use Rattle.std.proofs.Math.Decide.{ℕ_discrete}
use Rattle.std.proofs.lemmas.Nat.{xor_lt}
use Rattle.std.specs.Int.Bits.{xor_self, xor_zero_r}
use Rattle.std.proofs.Math.Pow.{pow_mono}
use Rattle.hashes.specs.Polynomial.{degree, times_mod}
use Rattle.hashes.specs.Irreducible.{Irreducible}
use Rattle.hashes.specs.Evaluation.{evaluation}
use Rattle.hashes.specs.Lists.{◌∈◌, Distinct}
use Rattle.hashes.specs.Evaluate.{Fit, evaluate, evaluation_horner}
use Rattle.hashes.specs.Xor.{xor_zero, xor_swap}
use Rattle.hashes.specs.Divisors.{irreducible_pos}
use Rattle.hashes.specs.FieldLemmas.{mod_xor_l, mod_zero_l}
use Rattle.hashes.specs.Roots.{Polynomial, constant, next, roots}

polynomial_cong : {p n : ℕ} {f : ℕ → ℕ} (g : ℕ → ℕ) → ((y : ℕ) → g y ≡ f y) → Polynomial p n f → Polynomial p n g
polynomial_cong g e (constant c h k d) = constant c h k (λ y. e y ∙ d y)
polynomial_cong g e (next c h k d) = next c h k (λ y. e y ∙ d y)

-- zeros in front
pad : ℕ → List ℕ → List ℕ
pad zero cs = cs
pad (suc e) cs = 0 ∷ pad e cs

module _ (p : ℕ) (irr : Irreducible p) where
  pos : 0 < p
  pos = irreducible_pos irr

  evaluate_pad : (a e : ℕ) (cs : List ℕ) → evaluate p a 0 (pad e cs) ≡ evaluate p a 0 cs
  unfolding evaluate pad
  evaluate_pad a zero cs = refl
  evaluate_pad a (suc e) cs =
      ap (λ (r : ℕ). evaluate p a r (pad e cs)) (xor_zero_r (times_mod p 0 a) ∙ mod_zero_l p pos a) ∙ evaluate_pad a e cs

  length_pad : (e : ℕ) (cs : List ℕ) → length (pad e cs) ≡ e + length cs
  unfolding pad
  length_pad zero cs = sym (zero-add (length cs))
  length_pad (suc e) cs = ap suc (length_pad e cs) ∙ sym (suc-add e (length cs))

  words_pad : (e : ℕ) (cs : List ℕ) → Fit p cs → Fit p (pad e cs)
  unfolding pad
  words_pad zero cs h = h
  words_pad (suc e) cs h = (pow_pos (degree p), words_pad e cs h)

  step_xor : (y r s c d : ℕ) → bit_xor (bit_xor (times_mod p r y) c) (bit_xor (times_mod p s y) d) ≡ bit_xor (times_mod p (bit_xor r s) y) (bit_xor c d)
  step_xor y r s c d =
      xor_swap (times_mod p r y) c (times_mod p s y) d ∙ ap (λ (x : ℕ). bit_xor x (bit_xor c d)) (sym (mod_xor_l p pos r s y))

  -- two runs whose values so far differ by a polynomial
  apart_run : (k : ℕ) (f g : ℕ → ℕ) (cs ds : List ℕ) → length cs ≡ length ds → Fit p cs → Fit p ds
      → Polynomial p k (λ y. bit_xor (f y) (g y)) → Polynomial p (length cs + k) (λ y. bit_xor (evaluate p y (f y) cs) (evaluate p y (g y) ds))
  unfolding evaluate
  apart_run k f g [] [] l hc hd h = rw (zero-add k) h
  apart_run k f g [] (d ∷ ds) l hc hd h = absurd (suc-ne-zero (length ds) (sym l))
  apart_run k f g (c ∷ cs) [] l hc hd h = absurd (suc-ne-zero (length cs) l)
  apart_run k f g (c ∷ cs) (d ∷ ds) l hc hd h =
      rw (suc-add (length cs) k, ← (add-suc (length cs) k))
      (apart_run (suc k) (λ y. bit_xor (times_mod p (f y) y) c) (λ y. bit_xor (times_mod p (g y) y) d) cs ds (suc_inj l)
      hc.1 hd.1
      (next (bit_xor c d) h (xor_lt (degree p) c d hc.0 hd.0) (λ y. step_xor y (f y) (g y) c d)))

  -- two runs from the same values: the lists are equal, or the results differ by a polynomial
  equal_or : (f : ℕ → ℕ) (cs ds : List ℕ) → length cs ≡ length ds → Fit p cs → Fit p ds
      → (cs ≡ ds) ⊎ ((k : ℕ) × (k < length cs) × Polynomial p k (λ y. bit_xor (evaluate p y (f y) cs) (evaluate p y (f y) ds)))
  unfolding evaluate
  equal_or f [] [] l hc hd = inl refl
  equal_or f [] (d ∷ ds) l hc hd = absurd (suc-ne-zero (length ds) (sym l))
  equal_or f (c ∷ cs) [] l hc hd = absurd (suc-ne-zero (length cs) l)
  equal_or f (c ∷ cs) (d ∷ ds) l hc hd = go (ℕ_discrete c d) (equal_or (λ y. bit_xor (times_mod p (f y) y) c) cs ds (suc_inj l) hc.1 hd.1)
    where
      go : Dec (c ≡ d)
          → (cs ≡ ds) ⊎ ((k : ℕ) × (k < length cs)
          × Polynomial p k (λ y. bit_xor (evaluate p y (bit_xor (times_mod p (f y) y) c) cs) (evaluate p y (bit_xor (times_mod p (f y) y) c) ds)))
          → (c ∷ cs ≡ d ∷ ds) ⊎ ((k : ℕ) × (k < suc (length cs)) × Polynomial p k (λ y. bit_xor (evaluate p y (f y) (c ∷ cs)) (evaluate p y (f y) (d ∷ ds))))
      go (yes e) (inl t) = inl (ap₂ {C = List ℕ} ◌∷◌ e t)
      go (yes e) (inr (k, lt, h)) =
          inr (
            k,
            le_step lt,
            polynomial_cong (λ y. bit_xor (evaluate p y (f y) (c ∷ cs)) (evaluate p y (f y) (d ∷ ds)))
                (λ y. ap (λ (x : ℕ). bit_xor (evaluate p y (bit_xor (times_mod p (f y) y) c) cs) (evaluate p y (bit_xor (times_mod p (f y) y) x) ds)) (sym e)) h,
          )
      go (no ne) t =
          inr (
            length cs + 0,
            le_of_eq (ap suc (add-zero (length cs))),
            apart_run 0 (λ y. bit_xor (times_mod p (f y) y) c) (λ y. bit_xor (times_mod p (f y) y) d) cs ds (suc_inj l) hc.1 hd.1
                (constant (bit_xor c d) (λ z. ne (xor_zero c d z)) (xor_lt (degree p) c d hc.0 hd.0)
                (λ y. step_xor y (f y) (f y) c d ∙ ap (λ (x : ℕ). bit_xor (times_mod p x y) (bit_xor c d)) (xor_self (f y))
                ∙ ap (λ (x : ℕ). bit_xor x (bit_xor c d)) (mod_zero_l p pos y))),
          )

  -- the leading 1 as a word, and zeros in front of the shorter list
  from_zero : (y e : ℕ) (ws : List ℕ) → evaluate p y 0 (pad e (1 ∷ ws)) ≡ evaluate p y 1 ws
  from_zero y e ws = evaluate_pad y e (1 ∷ ws) ∙ start
    where
      start : evaluate p y 0 (1 ∷ ws) ≡ evaluate p y 1 ws
      start = unfold evaluate in ap (λ (r : ℕ). evaluate p y r ws) (ap (λ (x : ℕ). bit_xor x 1) (mod_zero_l p pos y))

  differ : (e : ℕ) (ws vs : List ℕ) → ws ≢ vs → ◌≢◌ {A = List ℕ} (1 ∷ ws) (pad e (1 ∷ vs))
  unfolding pad
  differ zero ws vs ne q = ne (tail-eq_of_cons-eq q)
  differ (suc e) ws vs ne q = suc-ne-zero 0 (head-eq_of_cons-eq q)

  -- A list without repeats of points at which the hashes differ by d has at most one entry more than the longer list has words.
  pub evaluation_law : (ws vs : List ℕ) (e d : ℕ) → ws ≢ vs → length ws ≡ e + length vs → Fit p ws → Fit p vs → d < 2 ^ degree p
      → (points : List ℕ) → Distinct points → ((a : ℕ) → a ∈ points → (a < 2 ^ degree p) × (bit_xor (evaluation p a ws) (evaluation p a vs) ≡ d))
      → length points ≤ length ws + 1
  unfolding pad
  evaluation_law ws vs e d ne l hw hv hd points apart all =
      go (equal_or (λ y. 0) (1 ∷ ws) (pad e (1 ∷ vs)) same_length (one, hw) (words_pad e (1 ∷ vs) (one, hv)))
    where
      one : 1 < 2 ^ degree p
      one = pow_mono irr.no_constant

      same_length : suc (length ws) ≡ length (pad e (1 ∷ vs))
      same_length = ap suc l ∙ sym (add-suc e (length vs)) ∙ sym (length_pad e (1 ∷ vs))

      go : (1 ∷ ws ≡ pad e (1 ∷ vs)) ⊎ ((k : ℕ) × (k < suc (length ws)) × Polynomial p k (λ y. bit_xor (evaluate p y 0 (1 ∷ ws)) (evaluate p y 0 (pad e (1 ∷ vs)))))
          → length points ≤ length ws + 1
      go (inl q) = absurd (differ e ws vs ne q)
      go (inr (k, lt, h)) =
          le_trans (roots p irr (suc k) (λ y. bit_xor (bit_xor (evaluation p y ws) (evaluation p y vs)) d) (next d h hd product) points apart
          (λ a m. ((all a m).0, ap (λ (x : ℕ). bit_xor x d) (all a m).1 ∙ xor_self d)))
          (omega arith)
        where
          product : (y : ℕ) → bit_xor (bit_xor (evaluation p y ws) (evaluation p y vs)) d
              ≡ bit_xor (times_mod p (bit_xor (evaluate p y 0 (1 ∷ ws)) (evaluate p y 0 (pad e (1 ∷ vs)))) y) d
          product y =
              ap (λ (x : ℕ). bit_xor x d)
              (ap₂ bit_xor (evaluation_horner p pos y ws one hw) (evaluation_horner p pos y vs one hv)
              ∙ sym (mod_xor_l p pos (evaluate p y 1 ws) (evaluate p y 1 vs) y)
              ∙ ap (λ (x : ℕ). times_mod p x y) (ap₂ bit_xor (sym (from_zero y 0 ws)) (sym (from_zero y e vs))))
