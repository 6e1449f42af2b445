use Rattle.std.proofs.Common.{ℕ, ◌++◌, List, length, ap, ◌∙◌, arith, rules}
use Rattle.hashes.specs.Bytes.{typed_bytes}
use Rattle.hashes.specs.Word.{word}
use Rattle.hashes.proofs.PendingBytes.{finished, length_bytes}
use Rattle.hashes.proofs.evaluation.Pending.finished.Goals as goal

pub returns : goal.returns
returns c =
    let p = c.self.inside in
    let part = c.args.part.now in
    finished p.len p.word c.with_bytes.result part (typed_bytes part c.type_inv.part)
    (omega (arith, c.requires, ap length c.self.view_is, length_bytes p.len p.word)) (search rules) c.with_bytes.ensures
    ∙ ap (λ (bs : List ℕ). word (bs ++ part)) c.self.view_is
