-- Tables of additive functions: filled by doubling, and read by half bytes.
use Rattle.std.proofs.Common.{◌≡◌, ℕ, ◌+◌, ◌-◌, ◌*◌, ◌/◌, ◌%◌, ◌^◌, ◌<◌, ◌≤◌, ◌⊎◌, inl, inr, List, [], get_or, sym, ap, ap₂, ◌∙◌, arith, mod-lt, zero-lt-suc, one-mul, pow_mono, pow_pos, pow-add, mul-add, mul-one, add_comm}
use Rattle.std.proofs.lemmas.Bool.{cases_lt}
use native.Mathlib.Nat.{div-div-eq-div-mul, mod-one}
use lib.Bits.{bit_xor, xor_comm, xor_self, xor_shifted}
use lib.Pow.{mod-pow-add}
use Rattle.hashes.specs.Additive.{Additive, HalfByteRows}

additive_zero : (f : ℕ → ℕ) → Additive f → f 0 ≡ 0
additive_zero f add = add 0 0 ∙ xor_self (f 0)

-- ---- a table that is filled by doubling

-- the entries below n are the values of f
abbrev pub Filled : (ℕ → ℕ) → ℕ → List ℕ → Type 0
Filled f n words = (t : ℕ) → t < n → get_or words t 0 ≡ f t

-- a table whose first entry is zero is filled at zero
pub filled_one : (f : ℕ → ℕ) → Additive f → (words : List ℕ) → get_or words 0 0 ≡ 0
    → Filled f 1 words
filled_one f add words first t h =
    let z : t ≡ 0 = omega arith in rw z (first ∙ sym (additive_zero f add))

-- a power of x added to a number below it
with_power : (f : ℕ → ℕ) → Additive f → (k t : ℕ) → t < 2 ^ k → f (2 ^ k + t) ≡ bit_xor (f t) (f (2 ^ k))
with_power f add k t h =
    ap f (ap (λ (x : ℕ). x + t) (sym (one-mul (2 ^ k))) ∙ sym (xor_shifted 1 k t h) ∙ ap (λ (x : ℕ). bit_xor x t) (one-mul (2 ^ k)))
    ∙ add (2 ^ k) t ∙ xor_comm (f (2 ^ k)) (f t)

-- behind the first h words, a power of two, the same with f's value at h added
pub filled_twice : (f : ℕ → ℕ) → Additive f → (k h b : ℕ) (xs ys : List ℕ) → h ≡ 2 ^ k → b ≡ f (2 ^ k) → Filled f (2 ^ k) xs
    → ((t : ℕ) → t < h → get_or ys t 0 ≡ get_or xs t 0)
    → ((t : ℕ) → t < h → get_or ys (h + t) 0 ≡ bit_xor (get_or xs t 0) b)
    → Filled f (2 ^ (k + 1)) ys
filled_twice f add k h b xs ys e power filled below above t lt = go (cases_lt t h)
  where
    two : 2 ^ (k + 1) ≡ h + h
    two = omega (arith, pow-add 2 k 1)

    go : (t < h) ⊎ (h ≤ t) → get_or ys t 0 ≡ f t
    go (inl l) = below t l ∙ filled t (omega arith)
    go (inr l) =
        let small : t - h < h = omega (arith, lt, two) in
        let low : t - h < 2 ^ k = omega (arith, small) in
        let whole : h + (t - h) ≡ t = omega arith in
        ap (λ (i : ℕ). get_or ys i 0) (sym whole)
        ∙ above (t - h) small
        ∙ ap₂ bit_xor (filled (t - h) low) power
        ∙ sym (with_power f add k (t - h) low)
        ∙ ap f (ap (λ (x : ℕ). x + (t - h)) (sym e) ∙ whole)

-- the greatest power of two that is no greater than one is that one
pub whole_power : (n r N : ℕ) → N ≡ 2 ^ n → 2 ^ r ≤ N → N < 2 * 2 ^ r → 2 ^ r ≡ N
whole_power n r N e l g = go (cases_lt r n)
  where
    go : (r < n) ⊎ (n ≤ r) → 2 ^ r ≡ N
    go (inl h) = let m : 2 ^ (r + 1) ≤ 2 ^ n = pow_mono {i = r + 1} {j = n} (omega arith) in absurd (omega (arith, pow-add 2 r 1))
    go (inr h) = let m : 2 ^ n ≤ 2 ^ r = pow_mono {i = n} {j = r} h in omega arith

-- there is room for twice as many
pub room_for_double : (k r N : ℕ) → k < r → 2 ^ r ≤ N → 2 ^ k + 2 ^ k ≤ N
room_for_double k r N h l = let m : 2 ^ (k + 1) ≤ 2 ^ r = pow_mono {i = k + 1} {j = r} (omega arith) in omega (arith, pow-add 2 k 1)

-- ---- digits of w bits

place_more : (w j : ℕ) → w * (j + 1) ≡ w * j + w
place_more w j = omega (arith, mul-add w j 1, mul-one w)

-- the digits below place j + 1: those below place j, and the one at place j
pub lower_digits : (w v j : ℕ) → v % 2 ^ (w * (j + 1)) ≡ bit_xor (v % 2 ^ (w * j)) (v / 2 ^ (w * j) % 2 ^ w * 2 ^ (w * j))
lower_digits w v j =
    ap (λ (n : ℕ). v % 2 ^ n) (place_more w j ∙ add_comm (w * j) w) ∙ mod-pow-add v w (w * j)
    ∙ sym (xor_shifted (v / 2 ^ (w * j) % 2 ^ w) (w * j) (v % 2 ^ (w * j)) (mod-lt v (pow_pos (w * j))))
    ∙ xor_comm (v / 2 ^ (w * j) % 2 ^ w * 2 ^ (w * j)) (v % 2 ^ (w * j))

pub next_place : (w j : ℕ) → 2 ^ (w * j) * 2 ^ w ≡ 2 ^ (w * (j + 1))
next_place w j = sym (pow-add 2 (w * j) w) ∙ ap (λ (n : ℕ). 2 ^ n) (sym (place_more w j))

-- the digits from place j + 1 on: those from place j on, without the lowest
pub higher_digits : (w v j : ℕ) → v / 2 ^ (w * j) / 2 ^ w ≡ v / 2 ^ (w * (j + 1))
higher_digits w v j = div-div-eq-div-mul v (2 ^ (w * j)) (2 ^ w) ∙ ap (λ (n : ℕ). v / n) (next_place w j)

-- ---- a table by half bytes

pub no_half_byte : (f : ℕ → ℕ) (v : ℕ) → Additive f → 0 ≡ f (v % 1)
no_half_byte f v add = sym (ap f (mod-one v) ∙ additive_zero f add)

-- s stands for the half bytes below place j, and e for that at place j
half_byte_more : (f : ℕ → ℕ) → Additive f → (v j s e : ℕ) → s ≡ f (v % 2 ^ (4 * j)) → e ≡ f (v / 2 ^ (4 * j) % 16 * 2 ^ (4 * j))
    → bit_xor s e ≡ f (v % 2 ^ (4 * (j + 1)))
half_byte_more f add v j s e p q =
    ap₂ bit_xor p q ∙ sym (add (v % 2 ^ (4 * j)) (v / 2 ^ (4 * j) % 16 * 2 ^ (4 * j))) ∙ ap f (sym (lower_digits 4 v j))

-- the entry for what is left of v
pub half_byte_step : (f : ℕ → ℕ) (rows : List (List ℕ)) (v j s r : ℕ) → Additive f → HalfByteRows f rows → j < 16 → r ≡ v / 2 ^ (4 * j) → s ≡ f (v % 2 ^ (4 * j))
    → bit_xor s (get_or (get_or rows j []) (r % 16) 0) ≡ f (v % 2 ^ (4 * (j + 1)))
half_byte_step f rows v j s r add filled h left e =
    half_byte_more f add v j s _ e (filled.entry j (r % 16) h (mod-lt r (zero-lt-suc 15)) ∙ ap (λ (r : ℕ). f (r % 16 * 2 ^ (4 * j))) left)

-- what is left of v above the half bytes up to place j
pub higher_half_bytes : (v j : ℕ) → v / 2 ^ (4 * j) / 16 ≡ v / 2 ^ (4 * (j + 1))
higher_half_bytes v j = higher_digits 4 v j
