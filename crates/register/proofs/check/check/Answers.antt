use Rattle.std.proofs.Common.{ap, ◌∙◌}
use Rattle.std.proofs.lemmas.Result.{err_from_is_err_and}
use Rattle.hashes.specs.KeyFault.{opened}
use Rattle.register.specs.Values.{view}
use Rattle.register.specs.View.{key_of, pad_of}
use Rattle.hashes.specs.Bytes.{typed_bytes}
use Rattle.register.proofs.Checked.{opened_is, check_says, check_faults}
use Rattle.register.proofs.Passing.{verdict_passes}
use Rattle.register.specs.Results.{mapped_ok}
use Rattle.register.proofs.check.check.Goals as goal

pub returns-in_err-seal-clause-answers : goal.returns-in_err-seal-clause-answers
returns-in_err-seal-clause-answers g c =
    let M = g.F.Family.meaning in
    let buffer = c.args.buffer.now in
    let register = mapped_ok _ c.open.result c.map_err.result c.in_ok-register.register c.map_err.ensures.cases c.in_ok-register.was in
    let o = ap (opened (view M g.F.Family.state)) register ∙ c.open.ensures.opens in
    let p = err_from_is_err_and c.from_residual-in_err-seal.result c.from_residual-in_err-seal.ensures.1 in
    rw (p.1, p.2) (check_faults M buffer c.args.image.now _ o _ _ (c.in_err-seal.ensures.answers (key_of M buffer) (pad_of M buffer) (opened_is M buffer _ o)))

pub returns-in_err-seal-clause-passes : goal.returns-in_err-seal-clause-passes
returns-in_err-seal-clause-passes g c =
    verdict_passes g.F.Family.meaning c.args.buffer.now c.args.image.now (typed_bytes c.args.image.now c.type_inv.image) _ (returns-in_err-seal-clause-answers g c)

pub returns-clause-answers : goal.returns-clause-answers
returns-clause-answers g c =
    let M = g.F.Family.meaning in
    let buffer = c.args.buffer.now in
    let register = mapped_ok _ c.open.result c.map_err.result c.in_ok-register.register c.map_err.ensures.cases c.in_ok-register.was in
    let o = ap (opened (view M g.F.Family.state)) register ∙ c.open.ensures.opens in
    rw c.close.ensures (check_says M buffer c.args.image.now _ o _ _ (c.in_ok-seal.ensures.answers (key_of M buffer) (pad_of M buffer) (opened_is M buffer _ o)))

pub returns-clause-passes : goal.returns-clause-passes
returns-clause-passes g c =
    verdict_passes g.F.Family.meaning c.args.buffer.now c.args.image.now (typed_bytes c.args.image.now c.type_inv.image) _ (returns-clause-answers g c)
