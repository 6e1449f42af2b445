-- How a state moves on over joined parts.
use Rattle.std.proofs.Common.{◌≡◌, ℕ, zero, suc, ◌*◌, List, ◌++◌, take, drop, fold, sym, ap, ◌∙◌, add_comm, suc-mul, zero-mul, take-append-drop}
use Rattle.std.proofs.lemmas.List.{drop-drop}
use Rattle.std.proofs.lemmas.List.Sums.{fold-append}
use Rattle.std.specs.Simd.{first_chunks}
use Rattle.hashes.specs.Family.{Meaning, absorbed}

pub absorbed_append : (M : Meaning) (s : M.State) (xs ys : List ℕ) → absorbed M s (xs ++ ys) ≡ absorbed M (absorbed M s xs) ys
absorbed_append M s xs ys = fold-append M.next s xs ys

-- the first i bytes of xs, and then the rest
pub absorbed_split : (M : Meaning) (s : M.State) (xs : List ℕ) (i : ℕ) → absorbed M (absorbed M s (take i xs)) (drop i xs) ≡ absorbed M s xs
absorbed_split M s xs i = sym (absorbed_append M s (take i xs) (drop i xs)) ∙ ap (absorbed M s) (take-append-drop i xs)

-- the first k parts of n bytes in order, and then the rest
pub absorbed_chunks : (M : Meaning) (n k : ℕ) (s : M.State) (xs : List ℕ)
    → absorbed M (fold (absorbed M) s (first_chunks n k xs)) (drop (k * n) xs) ≡ absorbed M s xs
absorbed_chunks M n zero s xs = ap (absorbed M s) (ap (λ (i : ℕ). drop i xs) (zero-mul n))
absorbed_chunks M n (suc k) s xs =
    ap (absorbed M (fold (absorbed M) (absorbed M s (take n xs)) (first_chunks n k (drop n xs)))) further
    ∙ absorbed_chunks M n k (absorbed M s (take n xs)) (drop n xs)
    ∙ absorbed_split M s xs n
  where
    further : drop (suc k * n) xs ≡ drop (k * n) (drop n xs)
    further = ap (λ (i : ℕ). drop i xs) (suc-mul k n ∙ add_comm (k * n) n) ∙ sym (drop-drop (k * n) n xs)
