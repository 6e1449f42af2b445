-- Rabin's test is exact. p has the degree 2 m, and every number below 2 m that divides 2 m divides m, as for a power of 2. Then p is
-- irreducible if, and only if, x is back after 2 m squarings modulo p, and was not after m.
use Rattle.std.specs.Prelude.{◌≡◌, ℕ, zero, suc, ◌+◌, ◌*◌, ◌/◌, ◌%◌, ◌^◌, ◌<◌, ◌≤◌, Bool, true, cond, ◌&&◌, ◌≢◌, ◌⊎◌, ◌==◌, bit_xor}
use Rattle.std.proofs.Math.Path.{refl, sym, ap, ap₂, subst}
use Rattle.std.proofs.Common.{◌∙◌, inl, inr, lt_irrefl, mod-lt, zero-lt-suc, eq-zero-or-pos, not-suc-le-zero, suc-mul, zero-mul, div-add-mod', arith, pow_mono}
use Rattle.std.proofs.Math.Nat.{add_comm}
use Rattle.std.proofs.Math.Decide.{dec_lt, ℕ_discrete}
use Rattle.std.proofs.lemmas.Bool.{and_parts, eq-eqb, eqb-true}
use Rattle.std.proofs.lemmas.Nat.{xor_comm, xor_lt}
use Rattle.std.specs.Int.Bits.{xor_self}
use Rattle.hashes.specs.Polynomial.{times, degree, remainder, Divides, gcd, times_mod}
use Rattle.hashes.specs.Irreducible.{Irreducible}
use Rattle.hashes.specs.Xor.{xor_cancel_r, xor_zero}
use Rattle.hashes.specs.Times.{times_comm}
use Rattle.hashes.specs.Degree.{degree_one}
use Rattle.hashes.specs.Remainder.{remainder_lt, remainder_small, remainder_xor}
use Rattle.hashes.specs.Divisors.{Common, constant_one, coprime_factor, degree_quotient, divides_of_remainder, divides_times, divides_trans, divides_xor, divisor_pos, gcd_common, irreducible_pos, remainder_of_divides, same_degree}
use Rattle.hashes.specs.FieldLemmas.{mod_assoc, mod_one_r, mod_rem_r, mod_xor_r}
use Rattle.hashes.specs.Frobenius.{frobenius, frobenius_add, frobenius_lt, frobenius_xor}
use Rattle.hashes.specs.Period.{frobenius_degree, period}
use Rattle.hashes.specs.Factors.{degree_pos, frobenius_divisor, frobenius_start, irreducible_factor, remainder_divisor}

-- x, squared again and again modulo p, is back after 2 m squarings, and was not after m
abbrev pub BackAtLast : ℕ → ℕ → Type 0
BackAtLast p m = (frobenius p m 2 ≢ 2) × (frobenius p (m + m) 2 ≡ 2)

-- ---- over an irreducible f of degree d, x^(2^n) = x just where d divides n

module _ (f : ℕ) (irr : Irreducible f) where
  f_pos : 0 < f
  f_pos = irreducible_pos irr

  rounds : (q a : ℕ) → a < 2 ^ degree f → frobenius f (q * degree f) a ≡ a
  rounds zero a h = ap (λ (k : ℕ). frobenius f k a) (zero-mul (degree f)) ∙ unfold frobenius in refl
  rounds (suc q) a h =
      ap (λ (k : ℕ). frobenius f k a) (suc-mul q (degree f)) ∙ frobenius_add f f_pos (q * degree f) (degree f) a
      ∙ ap (frobenius f (q * degree f)) (frobenius_degree f irr a h) ∙ rounds q a h

  by_rounds : (n a : ℕ) → a < 2 ^ degree f → frobenius f n a ≡ frobenius f (n % degree f) a
  by_rounds n a h =
      ap (λ (k : ℕ). frobenius f k a) (sym (div-add-mod' n (degree f)) ∙ add_comm (n / degree f * degree f) (n % degree f))
      ∙ frobenius_add f f_pos (n % degree f) (n / degree f * degree f) a
      ∙ ap (frobenius f (n % degree f)) (rounds (n / degree f) a h)

  order_divides : (n : ℕ) → frobenius f n (remainder 2 f) ≡ remainder 2 f → n % degree f ≡ 0
  order_divides n e = go (eq-zero-or-pos (n % degree f))
    where
      go : (n % degree f ≡ 0) ⊎ (0 < n % degree f) → n % degree f ≡ 0
      go (inl z) = z
      go (inr k) =
          let least = period f irr (n % degree f) k (sym (by_rounds n (remainder 2 f) (remainder_lt f f_pos 2)) ∙ e) in
          let less : n % degree f < degree f = mod-lt n irr.no_constant in
          absurd (omega arith)

  divides_order : (n : ℕ) → n % degree f ≡ 0 → frobenius f n (remainder 2 f) ≡ remainder 2 f
  divides_order n z =
      by_rounds n (remainder 2 f) (remainder_lt f f_pos 2) ∙ ap (λ (k : ℕ). frobenius f k (remainder 2 f)) z ∙ unfold frobenius in refl

-- ---- the test

-- squaring once and more leaves the factor a^2
frobenius_factor : (p : ℕ) → 0 < p → (k a : ℕ) → (w : ℕ) × (frobenius p (suc k) a ≡ times_mod p a (times_mod p a w))
unfolding frobenius
frobenius_factor p pos zero a = (1, sym (mod_rem_r p pos a a) ∙ ap (times_mod p a) (sym (mod_one_r p pos a)))
frobenius_factor p pos (suc k) a = of_factor (frobenius_factor p pos k a)
  where
    of_factor : (w : ℕ) × (frobenius p (suc k) a ≡ times_mod p a (times_mod p a w)) → (w : ℕ) × (frobenius p (suc (suc k)) a ≡ times_mod p a (times_mod p a w))
    of_factor (w, e) = (
      times_mod p w r,
      ap (λ (x : ℕ). times_mod p x r) e ∙ mod_assoc p pos a (times_mod p a w) r ∙ ap (times_mod p a) (mod_assoc p pos a w r),
    )
      where
        r : ℕ
        r = frobenius p (suc k) a

not_one : {f : ℕ} → Irreducible f → Divides f 1 → ⊥
not_one irr c = omega (arith, degree_quotient (zero-lt-suc 0) c, degree_one, irr.no_constant)

module _ (p m : ℕ) (one : 1 ≤ m) (size : degree p ≡ m + m) where
  pos : 0 < p
  pos = let k : 2 ≤ p = degree_pos (omega arith) in omega arith

  x_small : 2 < 2 ^ degree p
  x_small = let two : 2 ≤ degree p = omega arith in let k : 2 ^ 2 ≤ 2 ^ degree p = pow_mono two in omega arith

  x_itself : remainder 2 p ≡ 2
  x_itself = remainder_small p pos 2 x_small

  irreducible_returns : Irreducible p → BackAtLast p m
  irreducible_returns irr = (
    λ e. let k : degree p ≤ m = period p irr m one (ap (frobenius p m) x_itself ∙ e ∙ sym x_itself) in omega arith,
    subst (λ (n : ℕ). frobenius p n 2 ≡ 2) size (frobenius_degree p irr 2 x_small),
  )

  module _ (halves : (d : ℕ) → 1 ≤ d → d < m + m → (m + m) % d ≡ 0 → m % d ≡ 0) (back : frobenius p (m + m) 2 ≡ 2) where
    -- an irreducible divisor of lower degree divides x^(2^m) + x
    lower_divides : (f : ℕ) → Irreducible f → Divides f p → degree f < degree p → Divides f (bit_xor (frobenius p m 2) 2)
    lower_divides f irr div low =
        divides_of_remainder f (bit_xor (frobenius p m 2) 2) f_positive
        (remainder_xor f f_positive (frobenius p m 2) 2
        ∙ ap (λ (x : ℕ). bit_xor x (remainder 2 f))
        (moved m one ∙ divides_order f irr m (halves (degree f) irr.no_constant (omega arith) (order_divides f irr (m + m) returns)))
        ∙ xor_self (remainder 2 f))
      where
        f_positive : 0 < f
        f_positive = irreducible_pos irr

        -- squarings modulo p, taken modulo f, are squarings modulo f
        moved : (k : ℕ) → 1 ≤ k → remainder (frobenius p k 2) f ≡ frobenius f k (remainder 2 f)
        moved k h =
            frobenius_divisor p f pos div k 2 ∙ ap (λ (x : ℕ). remainder x f) (sym (frobenius_start f k 2 f_positive h))
            ∙ remainder_small f f_positive (frobenius f k (remainder 2 f)) (frobenius_lt f f_positive k (remainder 2 f) (remainder_lt f f_positive 2))

        returns : frobenius f (m + m) (remainder 2 f) ≡ remainder 2 f
        returns = sym (moved (m + m) (omega arith)) ∙ ap (λ (x : ℕ). remainder x f) back

    -- x^(2^m) + x
    u : ℕ
    u = bit_xor (frobenius p m 2) 2

    u_small : u < 2 ^ degree p
    unfolding u
    u_small = xor_lt (degree p) (frobenius p m 2) 2 (frobenius_lt p pos m 2 x_small) x_small

    -- m squarings leave it as it is
    u_fixed : frobenius p m u ≡ u
    unfolding u
    u_fixed =
        frobenius_xor p pos m (frobenius p m 2) 2
        ∙ ap (λ (x : ℕ). bit_xor x (frobenius p m 2)) (sym (frobenius_add p pos m m 2) ∙ back)
        ∙ xor_comm 2 (frobenius p m 2)

    -- so it is u^2 w for some w
    u_factor : (w : ℕ) × (u ≡ times_mod p u (times_mod p u w))
    u_factor = go m one u_fixed
      where
        go : (k : ℕ) → 1 ≤ k → frobenius p k u ≡ u → (w : ℕ) × (u ≡ times_mod p u (times_mod p u w))
        go zero h e = absurd (lt_irrefl 0 h)
        go (suc k) h e = let (w, g) = frobenius_factor p pos k u in (w, sym e ∙ g)

    -- where every irreducible divisor of p divides u, p has no factor in common with 1 + u w, and p divides u (1 + u w): so p divides u
    all_divide : ((f : ℕ) → Irreducible f → Divides f p → Divides f u) → u ≡ 0
    all_divide all = sym (remainder_small p pos u u_small) ∙ remainder_of_divides pos (coprime_factor c u coprime multiple)
      where
        w : ℕ
        w = u_factor.0

        v : ℕ
        v = times_mod p u w

        c : ℕ
        c = bit_xor 1 v

        multiple : Divides p (times c u)
        multiple =
            divides_of_remainder p (times c u) pos
            (ap (λ (x : ℕ). remainder x p) (times_comm c u) ∙ zero)
          where
            split : times_mod p u c ≡ 0
            split = mod_xor_r p pos u 1 v ∙ ap₂ bit_xor (mod_one_r p pos u ∙ remainder_small p pos u u_small) (sym u_factor.1) ∙ xor_self u

            zero : remainder (times u c) p ≡ 0
            zero = unfold times_mod in split

        divides_v : (f : ℕ) → Irreducible f → Divides f p → Divides f v
        divides_v f irr div =
            divides_of_remainder f v (irreducible_pos irr)
            (unfold times_mod in (remainder_divisor p f pos div (times u w)
            ∙ remainder_of_divides (irreducible_pos irr) (subst (λ (x : ℕ). Divides f x) (times_comm w u) (divides_times w (all f irr div)))))

        g : Common (gcd c p) c p
        g = gcd_common c p

        coprime : gcd c p ≡ 1
        coprime = go (eq-zero-or-pos (degree (gcd c p)))
          where
            go : (degree (gcd c p) ≡ 0) ⊎ (0 < degree (gcd c p)) → gcd c p ≡ 1
            go (inl z) = constant_one (divisor_pos pos g.right) z
            go (inr k) =
                let (f, irr, div) = irreducible_factor (gcd c p) k in
                absurd (not_one irr (subst (λ (x : ℕ). Divides f x) (xor_cancel_r 1 v)
                (divides_xor (divides_trans div g.left) (divides_v f irr (divides_trans div g.right)))))

    returns_irreducible : frobenius p m 2 ≢ 2 → Irreducible p
    returns_irreducible not_half = record { no_constant = omega arith; no_divisor = none }
      where
        none : (d : ℕ) → 1 ≤ degree d → degree d < degree p → Divides d p → ⊥
        none d some low div = not_half (xor_zero (frobenius p m 2) 2 (unfold u in all_divide all))
          where
            all : (f : ℕ) → Irreducible f → Divides f p → Divides f u
            all f irr part = go (dec_lt (degree f) (degree p))
              where
                most : degree part.quotient + degree f ≡ degree p
                most = degree_quotient pos part

                go : Dec (degree f < degree p) → Divides f u
                go (yes less) = unfold u in lower_divides f irr part less
                go (no more) =
                    let same : f ≡ p = same_degree pos part (omega (arith, most)) in
                    absurd (irr.no_divisor d some (subst (λ (x : ℕ). degree d < degree x) (sym same) low) (subst (λ (x : ℕ). Divides d x) (sym same) div))

-- ---- at degree 64

-- each number below k that divides 64 divides 32
halves_test : ℕ → Bool
halves_test zero = true
halves_test (suc d) = cond (64 % d == 0) (32 % d == 0) true && halves_test d

halves_hold : (k : ℕ) → halves_test k ≡ true → (d : ℕ) → d < k → 64 % d ≡ 0 → 32 % d ≡ 0
unfolding halves_test
halves_hold zero t d l z = absurd (not-suc-le-zero l)
halves_hold (suc k) t d l z = go both.0 (halves_hold k both.1 d) (ℕ_discrete d k)
  where
    both : (cond (64 % k == 0) (32 % k == 0) true ≡ true) × (halves_test k ≡ true)
    both = and_parts (cond (64 % k == 0) (32 % k == 0) true) (halves_test k) t

    go : cond (64 % k == 0) (32 % k == 0) true ≡ true → (d < k → 64 % d ≡ 0 → 32 % d ≡ 0) → Dec (d ≡ k) → 32 % d ≡ 0
    go c rest (no other) = rest (omega arith) z
    go c rest (yes same) =
        let e : (64 % k == 0) ≡ true = eq-eqb (64 % k) 0 (ap (λ (x : ℕ). 64 % x) (sym same) ∙ z) in
        ap (λ (x : ℕ). 32 % x) same ∙ eqb-true (32 % k) 0 (subst (λ (b : Bool). cond b (32 % k == 0) true ≡ true) e c)

halves_64 : (d : ℕ) → 1 ≤ d → d < 64 → 64 % d ≡ 0 → 32 % d ≡ 0
unfolding halves_test
halves_64 d some l z = halves_hold 64 refl d l z

pub back_irreducible : (p : ℕ) → degree p ≡ 64 → BackAtLast p 32 → Irreducible p
back_irreducible p size (half, whole) = returns_irreducible p 32 (omega arith) size halves_64 whole half

pub irreducible_back : (p : ℕ) → degree p ≡ 64 → Irreducible p → BackAtLast p 32
irreducible_back p size irr = irreducible_returns p 32 (omega arith) size irr
