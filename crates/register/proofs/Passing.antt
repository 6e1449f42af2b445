-- The check answers 1 exactly at the images that it passes.
use Rattle.std.proofs.Common.{◌≡◌, ℕ, Bool, true, false, cond, ◌↔◌, List, [], Ok, Err, sym, refl, ap, ◌∙◌}
use Rattle.std.proofs.lemmas.Bool.{eqb-true, eq-eqb}
use Rattle.hashes.specs.Family.{Meaning}
use Rattle.hashes.specs.KeyFault.{Answer}
use Rattle.hashes.specs.Word.{Bytes}
use Rattle.register.specs.Image.{Outcome, compares, faulty, check}
use Rattle.register.specs.View.{View, standing, opening, key_of, pad_of}
use Rattle.register.specs.Check.{Verdict, says, verdict, checked, checked_by, Passes}
use Rattle.register.proofs.Checked.{opened_is}
use Rattle.register.proofs.Images.{check_compares}

one_true : (b : Bool) → says (cond b 1 0) ≡ says 1 → b ≡ true
one_true true e = refl
one_true false e = absurd cc

module _ (M : Meaning) (buffer bytes : List ℕ) (bs : Bytes bytes) where
  outcome_passes : (o : Outcome) → check M.code bytes ≡ o → opening M buffer ≡ Ok (standing M (key_of M buffer) (pad_of M buffer) [])
      → verdict M (key_of M buffer) (pad_of M buffer) o ≡ says 1 → Passes M buffer bytes
  outcome_passes (compares rs seal) e opens s =
      let h = (check_compares M.code bytes bs rs seal).0 e in
      record {
        opens = opens;
        records = rs;
        book = h.0;
        seal = seal;
        eight_bytes = h.1;
        framed = h.2;
        agrees = eqb-true _ _ (one_true _ s);
      }
  outcome_passes (faulty n offset) e opens s = absurd cc

  answer_passes : (a : Answer (View M)) → opening M buffer ≡ a → checked_by M buffer bytes a ≡ says 1 → Passes M buffer bytes
  answer_passes (Ok v) e s = outcome_passes (check M.code bytes) refl (e ∙ ap Ok (opened_is M buffer v (sym e))) s
  answer_passes (Err n) e s = absurd cc

  passes_says : Passes M buffer bytes → checked M buffer bytes ≡ says 1
  passes_says p =
      ap (checked_by M buffer bytes) p.opens
      ∙ ap (verdict M (key_of M buffer) (pad_of M buffer)) ((check_compares M.code bytes bs p.records p.seal).1 (p.book, p.eight_bytes, p.framed))
      ∙ ap (λ b. says (cond b 1 0)) (eq-eqb _ _ p.agrees)

  pub passes_iff : (checked M buffer bytes ≡ says 1) ↔ Passes M buffer bytes
  passes_iff = (answer_passes (opening M buffer) refl, passes_says)

  -- so does a verdict that is the check's
  pub verdict_passes : (v : Verdict) → v ≡ checked M buffer bytes → (v ≡ says 1) ↔ Passes M buffer bytes
  verdict_passes v e = (λ s. passes_iff.0 (sym e ∙ s), λ p. e ∙ passes_iff.1 p)
