-- Products modulo p: a commutative ring, and a field where p is irreducible.
use Rattle.std.specs.Prelude.{◌≡◌, ℕ, ◌^◌, ◌<◌, ◌⊎◌, bit_xor}
use Rattle.std.proofs.Math.Path.{sym, ap}
use Rattle.std.proofs.Common.{◌∙◌, inl, inr, pow_pos}
use Rattle.hashes.specs.Polynomial.{times, degree, remainder, Divides, times_mod}
use Rattle.hashes.specs.Irreducible.{Irreducible}
use Rattle.hashes.specs.Times.{times_zero_l, times_one_l, times_xor_l, times_xor_r, times_comm, times_assoc}
use Rattle.hashes.specs.Remainder.{remainder_lt, remainder_small, remainder_xor, remainder_times_l, remainder_times_r}
use Rattle.hashes.specs.Divisors.{divides_of_remainder, remainder_of_divides, irreducible_pos, euclid}

module _ (p : ℕ) (pos : 0 < p) where
  pub mod_lt : (a b : ℕ) → times_mod p a b < 2 ^ degree p
  unfolding times_mod
  mod_lt a b = remainder_lt p pos (times a b)

  pub mod_comm : (a b : ℕ) → times_mod p a b ≡ times_mod p b a
  unfolding times_mod
  mod_comm a b = ap (λ (x : ℕ). remainder x p) (times_comm a b)

  pub mod_assoc : (a b c : ℕ) → times_mod p (times_mod p a b) c ≡ times_mod p a (times_mod p b c)
  unfolding times_mod
  mod_assoc a b c =
      remainder_times_l p pos (times a b) c ∙ ap (λ (x : ℕ). remainder x p) (times_assoc a b c) ∙ sym (remainder_times_r p pos a (times b c))

  pub mod_xor_l : (a b c : ℕ) → times_mod p (bit_xor a b) c ≡ bit_xor (times_mod p a c) (times_mod p b c)
  unfolding times_mod
  mod_xor_l a b c = ap (λ (x : ℕ). remainder x p) (times_xor_l a b c) ∙ remainder_xor p pos (times a c) (times b c)

  pub mod_xor_r : (a b c : ℕ) → times_mod p a (bit_xor b c) ≡ bit_xor (times_mod p a b) (times_mod p a c)
  unfolding times_mod
  mod_xor_r a b c = ap (λ (x : ℕ). remainder x p) (times_xor_r a b c) ∙ remainder_xor p pos (times a b) (times a c)

  pub mod_zero_l : (a : ℕ) → times_mod p 0 a ≡ 0
  unfolding times_mod
  mod_zero_l a = ap (λ (x : ℕ). remainder x p) (times_zero_l a) ∙ remainder_small p pos 0 (pow_pos (degree p))

  pub mod_one_l : (a : ℕ) → times_mod p 1 a ≡ remainder a p
  unfolding times_mod
  mod_one_l a = ap (λ (x : ℕ). remainder x p) (times_one_l a)

  pub mod_one_r : (a : ℕ) → times_mod p a 1 ≡ remainder a p
  mod_one_r a = mod_comm a 1 ∙ mod_one_l a

  pub mod_rem_l : (a b : ℕ) → times_mod p (remainder a p) b ≡ times_mod p a b
  unfolding times_mod
  mod_rem_l a b = remainder_times_l p pos a b

  pub mod_rem_r : (a b : ℕ) → times_mod p a (remainder b p) ≡ times_mod p a b
  unfolding times_mod
  mod_rem_r a b = remainder_times_r p pos a b

-- no zero divisors
pub field_zero : {p : ℕ} → Irreducible p → (a b : ℕ) → a < 2 ^ degree p → b < 2 ^ degree p → times_mod p a b ≡ 0 → (a ≡ 0) ⊎ (b ≡ 0)
unfolding times_mod
field_zero {p} irr a b ha hb e = go (euclid a b irr (divides_of_remainder p (times a b) pos e))
  where
    pos : 0 < p
    pos = irreducible_pos irr

    none : (c : ℕ) → c < 2 ^ degree p → Divides p c → c ≡ 0
    none c h d = sym (remainder_small p pos c h) ∙ remainder_of_divides pos d

    go : Divides p a ⊎ Divides p b → (a ≡ 0) ⊎ (b ≡ 0)
    go (inl d) = inl (none a ha d)
    go (inr d) = inr (none b hb d)
