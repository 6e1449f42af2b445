-- Each cut gives the hash of the whole message, so what holds at one cut holds at all.
use Rattle.std.proofs.Common.{◌≡◌, ℕ, List, Ok, ◌+◌, ◌<◌, Bool, true, false, Decides, length, refl, arith, rules, tests}
use Rattle.std.specs.Bool.{MatchBool}
use Rattle.std.specs.List.{AllWithin, HoldsAt, range_with_len}
use Rattle.std.proofs.lemmas.Iterator.{YieldsList-from_range, cases_from_all}
use Rattle.std.proofs.lemmas.List.FromFn.{length-range_with_len}
use Rattle.hashes.specs.KeyFault.{hashing}
use Rattle.vectors.proofs.families.at_every_cut.Goals as goal

decided : (P : Type 0) (r : Bool) (cuts : List ℕ) → 0 < length cuts → MatchBool r (AllWithin (λ _. P) cuts 0 (length cuts)) ((k : ℕ) × (k < length cuts) × HoldsAt (λ _. P → ⊥) cuts k) → Decides r P
decided P true cuts some all = (λ _. all 0 0 (omega arith) some, λ _. refl)
decided P false cuts some one = (λ e. absurd (cc e), λ holds. absurd (one.2 0 holds))

pub returns : goal.returns
returns g c =
    let M = g.F.Family.meaning in
    let known : Type 0 = hashing M c.args.key.now c.args.message.now ≡ Ok c.args.known in
    let n = length c.args.message.now + 1 in
    decided known c.all.result (range_with_len 0 n) (omega (arith, length-range_with_len 0 n))
    (cases_from_all _ _ c.all.result (λ _. known) (λ _. known → ⊥) c.all.ensures.ran (YieldsList-from_range 0 n n refl (omega arith)) (λ x q k. search (rules, tests)) (λ x q k. search (rules, tests)))
