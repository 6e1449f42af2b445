use Rattle.std.proofs.Common.{◌≡◌, ℕ, ◌+◌, ◌*◌, ◌^◌, refl, ap, ◌∙◌, arith}
use Rattle.hashes.specs.Frobenius.{frobenius}
use Rattle.hashes.specs.Words.{word_pos}
use Rattle.hashes.proofs.FourthPowers.{fourth_add, fourth_more}
use Rattle.hashes.proofs.fourth_powers.repeated_fourth_power.Goals as goal

pub loop-init : goal.loop-init
unfolding frobenius
loop-init c = λ p rows. refl

pub loop-preserved : goal.loop-preserved
loop-preserved c = λ p rows.
    c.by_half_bytes-power.ensures (frobenius (2 ^ 64 + p) 2) (fourth_add (2 ^ 64 + p) (word_pos 64 p)) rows
    ∙ ap (frobenius (2 ^ 64 + p) 2) (c.loop.invariant p rows) ∙ fourth_more (2 ^ 64 + p) (word_pos 64 p) c.loop.counter c.args.a

pub returns : goal.returns
returns c =
    let all : c.loop.counter ≡ c.args.turns = omega (arith, c.loop-test.false, c.loop.auto.counter-end) in
    λ p rows. c.loop.invariant p rows ∙ ap (λ (k : ℕ). frobenius (2 ^ 64 + p) (k * 2) c.args.a) all
