-- What a text in fixed memory holds after something was written to it.
use Rattle.std.proofs.Common.{◌≡◌, ℕ, List, [], ◌∷◌, ◌++◌, Option, Some, None, sym, ap, ◌∙◌, append_assoc, append-nil}
use Rattle.std.specs.Prelude.{IfSome}
use Rattle.std.specs.Fmt.{WritesText}
use Rattle.std.specs.Fmt.InlineText.{AppendsIfIntact, IsIntact, inline_text}
use Rattle.std.specs.List.{FoldsTo, concat}
use Rattle.std.specs.declared.fmt.InlineText.{InlineText}

module _ {n : ℕ} where
  -- the parts, one after the other
  parts_written : (before : InlineText n) (parts : List (List ℕ)) (after : InlineText n)
      → FoldsTo AppendsIfIntact before parts after → IsIntact before
      → inline_text after ≡ inline_text before ++ concat parts
  parts_written before [] after same intact =
      ap inline_text (sym same) ∙ sym (append-nil (inline_text before))
  parts_written before (part ∷ parts) after folded intact =
      let first = folded.1 intact in
      parts_written folded.0 parts after folded.2 first.0
      ∙ ap (λ text. text ++ concat parts) first.1
      ∙ append_assoc (inline_text before) part (concat parts)

  -- all of it, where nothing was there before
  pub all_written : (before after : InlineText n) (written : Option (List ℕ))
      → WritesText AppendsIfIntact before written after → IsIntact before
      → inline_text before ≡ [] → IfSome written (λ bytes. inline_text after ≡ bytes)
  all_written before after None wrote intact empty = tt
  all_written before after (Some bytes) wrote intact empty =
      parts_written before wrote.parts after wrote.calls intact
      ∙ ap (λ text. text ++ concat wrote.parts) empty ∙ wrote.whole
