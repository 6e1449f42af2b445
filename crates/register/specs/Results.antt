-- What `map_err` makes of a result, by what it ensures.
use Rattle.std.proofs.Common.{◌≡◌, Ok, Err, Result, refl, subst}
use Rattle.std.specs.Result.{MatchResult, IsErrAnd}

pub mapped_ok : {T D E : Type 0} (P : E → D → Type 0) (r : Result T E) (m : Result T D) (x : T) → MatchResult r (λ y. m ≡ Ok y) (λ e. IsErrAnd m (P e)) → m ≡ Ok x → Ok x ≡ r
mapped_ok P (Ok y) m x h s = cc
mapped_ok P (Err e) (Ok y) x h s = absurd h
mapped_ok P (Err e) (Err d) x h s = cc

pub mapped_err : {T D E : Type 0} (P : E → D → Type 0) (r : Result T E) (m : Result T D) (d : D) → MatchResult r (λ y. m ≡ Ok y) (λ e. IsErrAnd m (P e)) → m ≡ Err d →
    (e : E) × (Err e ≡ r) × P e d
mapped_err P (Ok y) m d h s = absurd cc
mapped_err P (Err e) (Ok y) d h s = absurd h
mapped_err P (Err e) (Err f) d h s = let same : f ≡ d = cc in (e, refl, subst (P e) same h)
