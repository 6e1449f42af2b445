use Rattle.std.proofs.Common.{◌≡◌, ℕ, List, None, sym, ap, ◌∙◌, of_calls}
use Rattle.std.proofs.lemmas.Result.{err_from_is_err_and}
use Rattle.register.specs.declared.fault.ImageFault.TheVariants.{Record as FaultyRecord}
use Rattle.register.specs.FieldPlaces.{place_at, place_of}
use Rattle.register.specs.Values.{record_of, view}
use Rattle.register.specs.View.{reply_of}
use Rattle.register.specs.Results.{mapped_err, mapped_ok}
use Rattle.register.proofs.Walk.{gives, next_start, walk_ends, walk_refused, walk_seal, walk_taken}
use Rattle.register.proofs.check.read_records.Goals as goal

pub returns-in_default : goal.returns-in_default
returns-in_default g c = record {
  answers = λ key pad s.
      let M = g.F.Family.meaning in
      let image : List ℕ = c.args.image.now in
      let l = c.loop-field in
      let f = place_of c.in-Some.field in
      let given = gives image _ _ l.at _ _ f l.invariant.same l.invariant.here l.field-iterator.within c.in-Some.ensures.steps in
      let v = view M g.F.Family.state l.register in
      rw (c.at_seal.ensures, c.code.ensures, next_start image l.at f given)
      (walk_seal image l.at f given M key pad v (l.invariant.walked key pad s) (rw c.value.ensures at c.in_default.ensures));
}

pub returns-in_err-map_err : goal.returns-in_err-map_err
returns-in_err-map_err g c = record {
  answers = λ key pad s.
      let M = g.F.Family.meaning in
      let image : List ℕ = c.args.image.now in
      let l = c.loop-field in
      let f = place_of c.in-Some.field in
      let given = gives image _ _ l.at _ _ f l.invariant.same l.invariant.here l.field-iterator.within c.in-Some.ensures.steps in
      let v = view M g.F.Family.state l.register in
      let r = rw c.value.ensures at c.in-Some-record_in.ensures in
      let out = err_from_is_err_and c.from_residual.result c.from_residual.ensures.1 in
      let fault = mapped_err _ c.apply.result c.map_err.result c.in_err-map_err.field-0.0 c.map_err.ensures.cases c.in_err-map_err.was in
      let same : c.in_err-map_err.field-0.0 ≡ (FaultyRecord fault.0, l.at) = search of_calls in
      rw (out.1, out.2, same)
      (walk_refused image l.at f given M key pad v (l.invariant.walked key pad s) r.0 (record_of c.in-Some-record_in.record) r.1 _ fault.0 (ap reply_of fault.1 ∙ c.apply.ensures.answers));
}

pub loop-field-preserved : goal.loop-field-preserved
loop-field-preserved g c =
    let M = g.F.Family.meaning in
    let image : List ℕ = c.args.image.now in
    let l = c.loop-field in
    let f = place_of c.in-Some.field in
    let given = gives image _ _ l.at _ _ f l.invariant.same l.invariant.here l.field-iterator.within c.in-Some.ensures.steps in
    let v = view M g.F.Family.state l.register in
    let r = rw c.value.ensures at c.in-Some-record_in.ensures in
    record {
      same = c.in-Some.ensures.steps.holds ∙ l.invariant.same;
      here = c.in-Some.ensures.steps.moves ∙ sym c.end-at.ensures;
      walked = λ key pad s. rw c.end-at.ensures (walk_taken image l.at f given M key pad v (l.invariant.walked key pad s) r.0 (record_of c.in-Some-record_in.record) r.1 _ _ (ap reply_of (mapped_ok _ c.apply.result c.map_err.result c.in_ok-map_err.field-0 c.map_err.ensures.cases c.in_ok-map_err.was) ∙ c.apply.ensures.answers) c.apply.ensures.leaves);
    }

pub returns : goal.returns
returns g c = record {
  answers = λ key pad s.
      let l = c.loop-field in
      let none : place_at c.args.image.now l.at ≡ None = rw (← l.invariant.same, ← l.invariant.here) (sym c.in-None.ensures.steps.finds) in
      walk_ends g.F.Family.meaning key pad c.args.image.now _ l.at (l.invariant.walked key pad s) none;
}
