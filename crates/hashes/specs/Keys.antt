-- Keys by the words that they write, and which strings are keys.
use Rattle.std.specs.Prelude.{◌≡◌, ℕ, ◌+◌, ◌^◌, Bool, true, false, cond, ◌≢◌, ◌↔◌, List, map, length, Some, None, Decides, Option, ◌==◌, refl}
use Rattle.std.proofs.Common.{sym, ◌∙◌}
use Rattle.std.proofs.lemmas.Bool.Decides.{Decides-eqb}
use Rattle.hashes.specs.Irreducible.{Irreducible, irreducible_by_trial}
use Rattle.hashes.specs.KeyFault.{reducible_refusal, zero_refusal}
use Rattle.hashes.specs.Lists.{◌∈◌, Distinct}
use Rattle.hashes.specs.Toeplitz.{toeplitz_refusal}
use Rattle.hashes.specs.Word.{Bytes, word}
use Rattle.hashes.specs.Bytes.{word_injective}
use Rattle.hashes.specs.Pairs.{distinct_map}
use Rattle.hashes.specs.Trial.{trial_decides}

-- different keys of one length write different words
pub distinct_words : (n : ℕ) (keys : List (List ℕ)) → Distinct keys → ((key : List ℕ) → key ∈ keys → Bytes key × (length key ≡ n))
    → Distinct (map word keys)
distinct_words n keys apart all =
    distinct_map word keys
    (λ j k u v e. word_injective j k (all j u).0 (all k v).0 ((all j u).1 ∙ sym (all k v).1) e) apart

-- ---- refusals by a test

module _ {P : Type 0} where
  -- where the test says yes nothing is refused, otherwise n is the refusal
  yes_none : (n : ℕ) (b : Bool) → Decides b P → (cond {A = Option ℕ} b None (Some n) ≡ None) ↔ P
  yes_none n true d = (λ e. d.0 refl, λ p. refl)
  yes_none n false d = (λ e. cc, λ p. cc (d.1 p))

  no_some : (n : ℕ) (b : Bool) → Decides b P → (cond {A = Option ℕ} b None (Some n) ≡ Some n) ↔ (P → ⊥)
  no_some n true d = (λ e. cc, λ f. absurd (f (d.0 refl)))
  no_some n false d = (λ e p. cc (d.1 p), λ f. refl)

  -- where the test says yes n is the refusal, otherwise the rest decides
  yes_some : (n : ℕ) (rest : Option ℕ) (b : Bool) → Decides b P → (rest ≢ Some n) → (cond b (Some n) rest ≡ Some n) ↔ P
  yes_some n rest true d other = (λ e. d.0 refl, λ p. refl)
  yes_some n rest false d other = (λ e. absurd (other e), λ p. cc (d.1 p))

  no_rest : (n : ℕ) (rest o : Option ℕ) (b : Bool) → Decides b P → (Some n ≢ o) → (cond b (Some n) rest ≡ o) ↔ ((P → ⊥) × (rest ≡ o))
  no_rest n rest o true d other = (λ e. absurd (other e), λ h. absurd (h.0 (d.0 refl)))
  no_rest n rest o false d other = (λ e. (λ p. cc (d.1 p), e), λ h. h.1)

-- ---- which words are keys

pub irreducible_taken : (p : ℕ) → (reducible_refusal p ≡ None) ↔ Irreducible (2 ^ 64 + p)
irreducible_taken p = yes_none 3 (irreducible_by_trial (2 ^ 64 + p)) (trial_decides (2 ^ 64 + p))

pub reducible_refused : (p : ℕ) → (reducible_refusal p ≡ Some 3) ↔ (Irreducible (2 ^ 64 + p) → ⊥)
reducible_refused p = no_some 3 (irreducible_by_trial (2 ^ 64 + p)) (trial_decides (2 ^ 64 + p))

pub point_taken : (a : ℕ) → (zero_refusal a ≡ None) ↔ (a ≢ 0)
point_taken a = let h = no_rest 2 None None (a == 0) (Decides-eqb a 0) (λ e. cc) in (λ e. (h.0 e).0, λ f. h.1 (f, refl))

pub zero_refused : (a : ℕ) → (zero_refusal a ≡ Some 2) ↔ (a ≡ 0)
zero_refused a = yes_some 2 None (a == 0) (Decides-eqb a 0) (λ e. cc)

-- a zero state is refused first, then a reducible polynomial
pub pair_taken : (p s : ℕ) → (toeplitz_refusal p s ≡ None) ↔ ((s ≢ 0) × Irreducible (2 ^ 64 + p))
pair_taken p s =
    let h = no_rest 2 (reducible_refusal p) None (s == 0) (Decides-eqb s 0) (λ e. cc) in
    (λ e. ((h.0 e).0, (irreducible_taken p).0 (h.0 e).1), λ k. h.1 (k.0, (irreducible_taken p).1 k.1))

pub zero_state_refused : (p s : ℕ) → (toeplitz_refusal p s ≡ Some 2) ↔ (s ≡ 0)
zero_state_refused p s = yes_some 2 (reducible_refusal p) (s == 0) (Decides-eqb s 0) (not_two (irreducible_by_trial (2 ^ 64 + p)))
  where
    not_two : (b : Bool) → cond {A = Option ℕ} b None (Some 3) ≡ Some 2 → ⊥
    not_two true e = cc
    not_two false e = cc

pub pair_refused : (p s : ℕ) → (toeplitz_refusal p s ≡ Some 3) ↔ ((s ≢ 0) × (Irreducible (2 ^ 64 + p) → ⊥))
pair_refused p s =
    let h = no_rest 2 (reducible_refusal p) (Some 3) (s == 0) (Decides-eqb s 0) (λ e. cc) in
    (λ e. ((h.0 e).0, (reducible_refused p).0 (h.0 e).1), λ k. h.1 (k.0, (reducible_refused p).1 k.1))
