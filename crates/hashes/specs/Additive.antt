-- Additive functions: the value at a sum is the sum of the values.
use Rattle.std.specs.Prelude.{◌≡◌, ℕ, ◌*◌, ◌^◌, ◌<◌, List, [], bit_xor, slice_index, slice_index_or}

abbrev pub Additive : (ℕ → ℕ) → Type 0
Additive f = (a b : ℕ) → f (bit_xor a b) ≡ bit_xor (f a) (f b)

-- row j has the values of f at the half bytes in place j
pub record HalfByteRows (f : ℕ → ℕ) (rows : List (List ℕ)) : Type 0 where
  pub entry : (j d : ℕ) → j < 16 → d < 16 → slice_index (slice_index_or rows j []) d ≡ f (d * 2 ^ (4 * j))
