use Rattle.std.proofs.Common.{◌≡◌, ◌/◌, [], length, take, fold, ap, ◌∙◌, sym, arith, take_all}
use Rattle.std.specs.Simd.{first_chunks}
use Rattle.hashes.specs.Evaluation.{evaluation_family, evaluation_state}
use Rattle.hashes.specs.Family.{absorbed}
use Rattle.hashes.proofs.Absorbed.{absorbed_chunks}
use Rattle.hashes.proofs.EvaluationSteps.{bytes_held}
use Rattle.hashes.proofs.evaluation.Evaluation.take_words.Goals as goal

pub returns : goal.returns
returns c =
    let s = c.self.inside in
    let part = c.args.part.now in
    let words = c.as_chunks.result.0.now in
    let rest = c.as_chunks.result.1.now in
    let none : s.pending ≡ [] = ap (λ e. e.pending) c.self.view_is ∙ c.loop-bytes.invariant.whole in
    let all : take c.loop-bytes.bytes-index words ≡ words = take_all _ _ c.loop-bytes-test.false in
    ap (evaluation_state s.multiples.point s.value) c.extend.ensures
    ∙ sym (bytes_held s.multiples.point s.value s.pending rest (omega (arith, ap length none)))
    ∙ ap (λ e. absorbed evaluation_family e rest)
    (c.self.view_is ∙ c.loop-bytes.invariant.moved ∙ ap (fold (absorbed evaluation_family) c.args.self.now) (all ∙ c.as_chunks.ensures.front))
    ∙ ap (absorbed evaluation_family (fold (absorbed evaluation_family) c.args.self.now (first_chunks 8 (length part / 8) part))) c.as_chunks.ensures.back
    ∙ absorbed_chunks evaluation_family 8 (length part / 8) c.args.self.now part
