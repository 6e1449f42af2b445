-- Writing the bytes of a name one after another.
use Rattle.std.proofs.Common.{◌≡◌, ℕ, ◌+◌, ◌<◌, ◌≤◌, List, ◌∷◌, ◌++◌, length, take, drop, set, ◌∙◌, append_assoc, arith, length-set}
use Rattle.std.proofs.lemmas.List.{take_more_set, drop_more, drop-set-lt}

-- the first n bytes of all are written over those of out, and more are to come
pub record Decoded (out all : List ℕ) (n : ℕ) (bytes more : List ℕ) : Type 0 where
  pub within : n ≤ length bytes
  pub size : length bytes ≡ length out
  pub kept : drop n bytes ≡ drop n out
  pub written : all ≡ take n bytes ++ more

module _ {out all : List ℕ} {n : ℕ} {bytes more : List ℕ} (h : Decoded out all n bytes more) where
  pub holds_more : (b : ℕ) (rest : List ℕ) → n < length bytes → more ≡ b ∷ rest → Decoded out all (n + 1) (set bytes n b) rest
  holds_more b rest room e =
      let size = length-set bytes n b in
      let here = drop_more bytes n 0 room in
      let there = drop_more out n 0 (omega (arith, h.size)) in
      record {
        within = omega arith;
        size = size ∙ h.size;
        kept = drop-set-lt (n + 1) bytes n b (omega arith) ∙ (let k = h.kept in cc);
        written = h.written ∙ rw (e, take_more_set bytes n b room, append_assoc);
      }
