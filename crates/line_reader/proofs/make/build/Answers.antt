-- The text is refused, or the seal field comes behind the message where there is room.
use Rattle.std.proofs.Common.{◌≡◌, ℕ, length, Err, Result, sym, ap, ◌∙◌, arith, replicate}
use Rattle.std.proofs.lemmas.Result.{err_from_is_err_and}
use Rattle.std.specs.Int.{bytes_high_first}
use Rattle.register.specs.Image.{seal_field}
use Rattle.register.specs.Records.{bytes_of}
use Rattle.register.specs.Writing.{put}
use Rattle.line_reader.specs.declared.fault.MakeFault.{MakeFault}
use Rattle.line_reader.specs.Making.{Making}
use Rattle.line_reader.specs.Sending.{wiped}
use Rattle.line_reader.proofs.Makings.{making_put, making_refused}
use Rattle.line_reader.proofs.make.build.Goals as goal

-- a refusal leaves zeros, by the room
abbrev refused_in : ℕ → ℕ × ℕ → ℕ → Making
refused_in number place room = (Err (number, place), replicate room 0)

pub returns-in_err-length-clause-makes : goal.returns-in_err-length-clause-makes
returns-in_err-length-clause-makes g c =
    let M = g.F.Family.meaning in
    let out = c.send_text.new.out in
    let kept : length out ≡ length c.args.out.now = omega arith in
    let p = err_from_is_err_and c.from_residual.result c.from_residual.ensures.1 in
    ap (λ (r : Result ℕ MakeFault). wiped r out) (p.1 ∙ ap Err p.2)
    ∙ ap (refused_in _ _) kept
    ∙ sym (making_refused M c.args.buffer.now c.args.text.now (length c.args.out.now) _ _
    (c.in_err-length.ensures.sends.sends c.requires))

pub returns-clause-makes : goal.returns-clause-makes
returns-clause-makes g c =
    making_put g.F.Family.meaning c.args.buffer.now c.args.text.now c.send_text.new.out
    (length c.args.out.now) c.in_ok-length.length c.in_ok-length.seal
    (c.in_ok-length.ensures.sends.sends c.requires) c.register_facts.ensures.facts
    c.put_seal.result c.put_seal.new.out (omega arith) (omega arith)
    c.put_seal.ensures.answers
    (c.put_seal.ensures.writes
    ∙ ap (λ (k : ℕ). put c.send_text.new.out c.in_ok-length.length
    (bytes_of (seal_field k (bytes_high_first 8 c.in_ok-length.seal)))) c.code.ensures)
