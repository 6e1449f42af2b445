-- Divisors, the greatest common divisor, and irreducible polynomials.
use Rattle.std.specs.Prelude.{◌≡◌, ℕ, zero, suc, ◌+◌, ◌*◌, ◌/◌, ◌^◌, ◌<◌, ◌≤◌, ◌⊎◌, List, [], ◌∷◌, length, bit_xor, refl}
use Rattle.std.proofs.Common.{sym, ap, ap₂, ◌∙◌, subst, inl, inr, zero-le, eq-zero-or-pos, lt_irrefl, le_refl, div-one, suc-mul, not-suc-le-zero, le_of_suc-le-suc, zero-lt-suc, le_trans, zero-mul, arith}
use Rattle.std.proofs.Math.Decide.{dec_lt, ℕ_discrete, map_dec}
use Rattle.std.specs.Int.Bits.{xor_zero_r, xor_assoc}
use Rattle.std.proofs.lemmas.Nat.{xor_comm}
use Rattle.hashes.specs.Lists.{◌∈◌, Distinct}
use Rattle.hashes.specs.Polynomial.{times, degree, remainder, Divides, gcd_within, gcd}
use Rattle.hashes.specs.Irreducible.{Irreducible}
use Rattle.hashes.specs.Xor.{xor_cancel}
use Rattle.hashes.specs.Times.{times_zero_l, times_zero_r, times_one_l, times_xor_l, times_xor_r, times_comm, times_assoc, times_one_r}
use Rattle.hashes.specs.Degree.{degree_lead, degree_times, degree_zero}
use Rattle.hashes.specs.Remainder.{divided, remainder_below, remainder_multiple}

-- ---- divisors

pub divides_refl : (a : ℕ) → Divides a a
divides_refl a = record { quotient = 1; product = times_one_l a }

divides_zero : (d : ℕ) → Divides d 0
divides_zero d = record { quotient = 0; product = times_zero_l d }

pub divides_times : {d a : ℕ} (b : ℕ) → Divides d a → Divides d (times b a)
divides_times {d} b h = record { quotient = times b h.quotient; product = times_assoc b h.quotient d ∙ ap (times b) h.product }

pub divides_xor : {d a b : ℕ} → Divides d a → Divides d b → Divides d (bit_xor a b)
divides_xor {d} h k =
    record { quotient = bit_xor h.quotient k.quotient; product = times_xor_l h.quotient k.quotient d ∙ ap₂ bit_xor h.product k.product }

pub divides_trans : {d a b : ℕ} → Divides d a → Divides a b → Divides d b
divides_trans {d} h k = subst (λ (x : ℕ). Divides d x) k.product (divides_times k.quotient h)

pub divides_of_remainder : (p a : ℕ) → 0 < p → remainder a p ≡ 0 → Divides p a
divides_of_remainder p a pos e =
    let (q, f) = divided p pos a in
    record { quotient = q; product = sym (f ∙ ap (bit_xor (times q p)) e ∙ xor_zero_r (times q p)) }

pub remainder_of_divides : {p a : ℕ} → 0 < p → Divides p a → remainder a p ≡ 0
remainder_of_divides {p} pos h = ap (λ (x : ℕ). remainder x p) (sym h.product) ∙ remainder_multiple p pos h.quotient

pub decide_divides : (d a : ℕ) → 0 < d → Dec (Divides d a)
decide_divides d a pos = map_dec (λ e. divides_of_remainder d a pos e) (λ h. remainder_of_divides pos h) (ℕ_discrete (remainder a d) 0)

pub divisor_pos : {d a : ℕ} → 0 < a → Divides d a → 0 < d
divisor_pos {d} pos h = go (eq-zero-or-pos d)
  where
    go : (d ≡ 0) ⊎ (0 < d) → 0 < d
    go (inl z) = absurd (lt_irrefl 0 (subst (λ (x : ℕ). 0 < x) (sym h.product ∙ ap (times h.quotient) z ∙ times_zero_r h.quotient) pos))
    go (inr k) = k

-- the quotient divides too
cofactor : {d a : ℕ} (h : Divides d a) → Divides h.quotient a
cofactor {d} h = record { quotient = d; product = times_comm d h.quotient ∙ h.product }

pub degree_quotient : {d a : ℕ} → 0 < a → (h : Divides d a) → degree h.quotient + degree d ≡ degree a
degree_quotient {d} pos h = sym (degree_times h.quotient d (divisor_pos pos (cofactor h)) (divisor_pos pos h)) ∙ ap degree h.product

pub constant_one : {a : ℕ} → 0 < a → degree a ≡ 0 → a ≡ 1
constant_one {a} h e = sym (div-one a) ∙ subst (λ (n : ℕ). a / 2 ^ n ≡ 1) e (degree_lead a h)

-- a divisor of the same degree is the polynomial itself
pub same_degree : {d a : ℕ} → 0 < a → Divides d a → degree d ≡ degree a → d ≡ a
same_degree {d} pos h f =
    let one : h.quotient ≡ 1 = constant_one (divisor_pos pos (cofactor h)) (omega (arith, degree_quotient pos h)) in
    sym (times_one_l d) ∙ ap (λ (x : ℕ). times x d) (sym one) ∙ h.product

-- ---- the greatest common divisor

-- g divides a and b, and is a sum of multiples of them
pub record Common (g a b : ℕ) : Type 0 where
  pub left : Divides g a
  pub right : Divides g b
  pub u : ℕ
  pub v : ℕ
  pub sum : g ≡ bit_xor (times u a) (times v b)

common_zero : (a : ℕ) → Common a a 0
common_zero a =
    record { left = divides_refl a; right = divides_zero a; u = 1; v = 0; sum = sym (ap₂ bit_xor (times_one_l a) (times_zero_l 0) ∙ xor_zero_r a) }

common_step : {g b : ℕ} (a : ℕ) → 0 < b → Common g b (remainder a b) → Common g a b
common_step {g} {b} a pos c =
    record {
      left = subst (λ (x : ℕ). Divides g x) (sym whole) (divides_xor (divides_times q c.left) c.right);
      right = c.left;
      u = c.v;
      v = bit_xor c.u (times c.v q);
      sum = c.sum ∙ swap;
    }
  where
    q : ℕ
    q = (divided b pos a).0

    whole : a ≡ bit_xor (times q b) (remainder a b)
    whole = (divided b pos a).1

    rest : remainder a b ≡ bit_xor (times q b) a
    rest = sym (xor_cancel (times q b) (remainder a b)) ∙ ap (bit_xor (times q b)) (sym whole)

    swap : bit_xor (times c.u b) (times c.v (remainder a b)) ≡ bit_xor (times c.v a) (times (bit_xor c.u (times c.v q)) b)
    swap =
        ap (bit_xor (times c.u b)) (ap (times c.v) rest ∙ times_xor_r c.v (times q b) a
        ∙ ap (λ (x : ℕ). bit_xor x (times c.v a)) (sym (times_assoc c.v q b)))
        ∙ sym (xor_assoc (times c.u b) (times (times c.v q) b) (times c.v a))
        ∙ xor_comm (bit_xor (times c.u b) (times (times c.v q) b)) (times c.v a)
        ∙ ap (bit_xor (times c.v a)) (sym (times_xor_l c.u (times c.v q) b))

-- every common divisor divides it
common_greatest : {d g a b : ℕ} → Common g a b → Divides d a → Divides d b → Divides d g
common_greatest {d} c h k = subst (λ (x : ℕ). Divides d x) (sym c.sum) (divides_xor (divides_times c.u h) (divides_times c.v k))

gcd_within_common : (n a b : ℕ) → b ≤ n → Common (gcd_within n a b) a b
unfolding gcd_within
gcd_within_common zero a zero h = common_zero a
gcd_within_common zero a (suc b) h = absurd (not-suc-le-zero h)
gcd_within_common (suc n) a zero h = common_zero a
gcd_within_common (suc n) a (suc b) h =
    common_step a (zero-lt-suc b)
    (gcd_within_common n (suc b) (remainder a (suc b)) (le_of_suc-le-suc (le_trans (remainder_below (suc b) (zero-lt-suc b) a) h)))

pub gcd_common : (a b : ℕ) → Common (gcd a b) a b
unfolding gcd
gcd_common a b = gcd_within_common b a b (le_refl b)

pub gcd_greatest : {d a b : ℕ} → Divides d a → Divides d b → Divides d (gcd a b)
gcd_greatest {a = a} {b = b} h k = common_greatest (gcd_common a b) h k

-- two that divide each other are equal: 1 is the only unit
pub divides_antisymm : {a b : ℕ} → Divides a b → Divides b a → a ≡ b
divides_antisymm {a} {b} h k = go (eq-zero-or-pos b)
  where
    go : (b ≡ 0) ⊎ (0 < b) → a ≡ b
    go (inl z) = sym k.product ∙ ap (times k.quotient) z ∙ times_zero_r k.quotient ∙ sym z
    go (inr pos) =
        same_degree pos h (omega (arith, degree_quotient pos h, degree_quotient (divisor_pos pos h) k))

pub common_unique : {g h a b : ℕ} → Common g a b → Common h a b → g ≡ h
common_unique c e = divides_antisymm (common_greatest e c.left c.right) (common_greatest c e.left e.right)

-- one step of Euclid's
pub gcd_step : (a b : ℕ) → 0 < b → gcd a b ≡ gcd b (remainder a b)
gcd_step a b pos = common_unique (gcd_common a b) (common_step a pos (gcd_common b (remainder a b)))

pub gcd_zero : (a : ℕ) → gcd a 0 ≡ a
gcd_zero a = common_unique (gcd_common a 0) (common_zero a)

pub gcd_one : (a : ℕ) → gcd a 1 ≡ 1
gcd_one a = divides_antisymm (gcd_common a 1).right (record { quotient = gcd a 1; product = times_one_r (gcd a 1) })

-- ---- irreducible polynomials

pub irreducible_pos : {p : ℕ} → Irreducible p → 0 < p
irreducible_pos {p} h = go (eq-zero-or-pos p)
  where
    go : (p ≡ 0) ⊎ (0 < p) → 0 < p
    go (inl z) = absurd (not-suc-le-zero (subst (λ (x : ℕ). 1 ≤ x) (ap degree z ∙ degree_zero) h.no_constant))
    go (inr k) = k

-- a divisor of an irreducible polynomial is 1 or the polynomial itself
pub irreducible_divisor : {p d : ℕ} → Irreducible p → Divides d p → (d ≡ 1) ⊎ (d ≡ p)
irreducible_divisor {p} {d} h k = go (ℕ_discrete (degree d) 0) (dec_lt (degree d) (degree p))
  where
    pos : 0 < p
    pos = irreducible_pos h

    most : degree k.quotient + degree d ≡ degree p
    most = degree_quotient pos k

    go : Dec (degree d ≡ 0) → Dec (degree d < degree p) → (d ≡ 1) ⊎ (d ≡ p)
    go (yes z) l = inl (constant_one (divisor_pos pos k) z)
    go (no z) (yes l) = absurd (h.no_divisor d (omega arith) l k)
    go (no z) (no l) = inr (same_degree pos k (omega (arith, most)))

-- what divides a product, and has no factor in common with one factor, divides the other
pub coprime_factor : {p : ℕ} (a b : ℕ) → gcd a p ≡ 1 → Divides p (times a b) → Divides p b
coprime_factor {p} a b e k =
    subst (λ (x : ℕ). Divides p x) parts (divides_xor (divides_times c.u k) (divides_times (times c.v b) (divides_refl p)))
  where
    c : Common (gcd a p) a p
    c = gcd_common a p

    -- since 1 = u a + v p, b = u (a b) + (v b) p
    parts : bit_xor (times c.u (times a b)) (times (times c.v b) p) ≡ b
    parts =
        ap₂ bit_xor (sym (times_assoc c.u a b)) (times_assoc c.v b p ∙ ap (times c.v) (times_comm b p) ∙ sym (times_assoc c.v p b))
        ∙ sym (times_xor_l (times c.u a) (times c.v p) b)
        ∙ ap (λ (x : ℕ). times x b) (sym c.sum ∙ e)
        ∙ times_one_l b

-- Euclid's lemma
pub euclid : {p : ℕ} (a b : ℕ) → Irreducible p → Divides p (times a b) → Divides p a ⊎ Divides p b
euclid {p} a b h k = go (irreducible_divisor h (gcd_common a p).right)
  where
    go : (gcd a p ≡ 1) ⊎ (gcd a p ≡ p) → Divides p a ⊎ Divides p b
    go (inl e) = inr (coprime_factor a b e k)
    go (inr e) = inl (subst (λ (x : ℕ). Divides x a) e (gcd_common a p).left)

-- Keys that stand for different irreducible polynomials of degree n, all of which divide a: their degrees together are at most a's.
module _ {K : Type 0} (poly : K → ℕ) (injective : (j k : K) → poly j ≡ poly k → j ≡ k) (n : ℕ) where
  pub irreducible_divisors : (a : ℕ) → 0 < a → (ks : List K) → Distinct ks
      → ((k : K) → k ∈ ks → Irreducible (poly k) × (degree (poly k) ≡ n) × Divides (poly k) a) → length ks * n ≤ degree a
  irreducible_divisors a pos [] apart all = rw (zero-mul n) zero-le
  irreducible_divisors a pos (k ∷ ks) apart all =
      bound (irreducible_divisors first.2.quotient (divisor_pos pos (cofactor first.2)) ks apart.1
      (λ j m. ((later j m).0, (later j m).1, of_quotient j m)))
    where
      first : Irreducible (poly k) × (degree (poly k) ≡ n) × Divides (poly k) a
      first = all k (inl refl)

      later : (j : K) → j ∈ ks → Irreducible (poly j) × (degree (poly j) ≡ n) × Divides (poly j) a
      later j m = all j (inr m)

      -- a later polynomial divides a, so the quotient or the first polynomial; but the latter only if it is the same
      of_quotient : (j : K) → j ∈ ks → Divides (poly j) first.2.quotient
      of_quotient j m =
          go (euclid first.2.quotient (poly k) (later j m).0 (subst (λ (x : ℕ). Divides (poly j) x) (sym first.2.product) (later j m).2))
        where
          same : Divides (poly j) (poly k) → j ≡ k
          same h = injective j k (same_degree (irreducible_pos first.0) h ((later j m).1 ∙ sym first.1))

          go : Divides (poly j) first.2.quotient ⊎ Divides (poly j) (poly k) → Divides (poly j) first.2.quotient
          go (inl h) = h
          go (inr h) = absurd (apart.0 (subst (λ (v : K). v ∈ ks) (same h) m))

      bound : length ks * n ≤ degree first.2.quotient → suc (length ks) * n ≤ degree a
      bound h = rw (suc-mul (length ks) n) (omega (arith, degree_quotient pos first.2, first.1))
