-- A read into the rest of a buffer makes the filled front longer.
use Rattle.std.proofs.Common.{◌≡◌, ℕ, ◌+◌, ◌≤◌, List, ◌++◌, Option, length, take, drop}
use Rattle.std.proofs.Common.{sym, ap, ◌∙◌, subst, le_refl, drop_at, length-take-le}
use Rattle.std.proofs.KnownBytes.{Consumes-trans}
use Rattle.std.proofs.lemmas.Slice.{take-put_mid_below}
use Rattle.std.specs.Io.KnownBytes.{Consumes}
use borrow.Rule.Slice.PartMut.{put_mid, post_of}
use lib.Seq.{take-add, take-append-le}

-- xs was filled up to len, and the part behind it then got `more` bytes
pub filled_more : (a b c : Option (List ℕ)) (len k more : ℕ) (xs part : List ℕ)
    → len ≤ length xs → more ≤ length part
    → Consumes a b (take len xs) → Consumes b c (take more part)
    → Consumes a c (take (len + more) (put_mid len k xs part))
filled_more a b c len k more xs part within fits before read =
    let ys = put_mid len k xs part in
    let behind = part ++ post_of len k xs in
    let front : take len ys ≡ take len xs = take-put_mid_below _ _ _ _ _ (le_refl _) within in
    let rest : drop len ys ≡ behind = drop_at _ behind len (length-take-le len xs within) in
    let back : take more (drop len ys) ≡ take more part =
    ap (take more) rest ∙ take-append-le more part _ fits in
    let joined : take (len + more) ys ≡ take len xs ++ take more part =
    take-add len more ys ∙ (λ i. front i ++ back i) in
    subst (Consumes a c) (sym joined) (Consumes-trans a b c _ _ before read)
