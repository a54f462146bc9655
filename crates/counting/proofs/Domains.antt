-- Domains as numbers: their bits are what they list, and sums over listed values. Assumes nothing.
use Rattle.std.specs.Prelude.{◌≡◌, refl, Bool, true, false, not, ◌&&◌, ◌≢◌, ℕ, zero, suc, ◌+◌, ◌-◌, ◌*◌, ◌/◌, ◌%◌, ◌^◌, ◌≤◌, ◌<◌, eqb, ltb, length}
use Rattle.std.proofs.Common.{sym, ap, ap₂, ◌∙◌, le_refl, add-zero, add_comm, zero-mul, mod-eq_of_lt, arith, eqb-true, ltb-true, ltb-false, lit<, pow_pos, pow-add}
use mathlib.Core.List.{Memᴰ}
use Rattle.std.proofs.Math.Nat.{zero-div, add-mul-div_right, pow-succ'}
use Rattle.std.proofs.lemmas.Bool.{eqb-false}
use Rattle.std.proofs.lemmas.Nat.{mod-pow-add}
use Rattle.std.proofs.Math.Arith.{digits_div}
use Rattle.told.specs.Told.{when}
use Rattle.sizes.specs.Sizes.{values}
use Rattle.listing.specs.Listing.{only, how_many, below, sum_over}
use Rattle.counting.specs.Counting.{lists, listed, domain_of}
use Rattle.listing.specs.Members.{in_below, below_small, only_in, in_only, in_at}
use Rattle.listing.specs.Sums.{when_both, when_swap, when_cong, when_some, when_grows, sum_only, sum_below, sum_nil, sum_cong, sum_plus, sum_cong_below, sum_some, sum_part, sum_most, sum_tight, pick, how_many_sum, length_only, length_below}

-- the one test holds where the other does
infix 20 ◌⇒◌
abbrev pub ◌⇒◌ : Bool → Bool → Type 0
a ⇒ b = a ≡ true → b ≡ true

pub both : (a b : Bool) → a ⇒ b → b ⇒ a → a ≡ b
both true b f g = sym (f refl)
both false true f g = g refl
both false false f g = refl

-- ---- the listed values

pub listed_in : (d v : ℕ) → Memᴰ v (listed d) → (v < values) × (lists d v ≡ true)
unfolding listed
listed_in d v m = let r = only_in (lists d) (below values) v m in (below_small values v r.1, r.0)

pub in_listed : (d v : ℕ) → v < values → lists d v ≡ true → Memᴰ v (listed d)
unfolding listed
in_listed d v l q = in_only (lists d) (below values) v q (in_below values v l)

-- ---- sums over listed values

module _ (d : ℕ) where
  -- are sums over all values, under the test
  pub sum_listed : (g : ℕ → ℕ) → sum_over g (listed d) ≡ sum_over (λ v. when (lists d v) (g v)) (below values)
  unfolding listed
  sum_listed g = sum_only g (lists d) (below values)

  pub sum_listed_only : (p : ℕ → Bool) (g : ℕ → ℕ) → sum_over g (only p (listed d)) ≡ sum_over (λ v. when (lists d v && p v) (g v)) (below values)
  sum_listed_only p g =
      sum_only g p (listed d) ∙ sum_listed _ ∙ sum_cong _ _ (below values) (λ v. sym (when_both (g v) (lists d v) (p v)))

  -- look at listed values only
  pub listed_cong : (g h : ℕ → ℕ) → ((v : ℕ) → v < values → lists d v ≡ true → g v ≡ h v) → sum_over g (listed d) ≡ sum_over h (listed d)
  listed_cong g h e =
      sum_listed g ∙ sum_cong_below _ _ values (λ v l. when_cong (lists d v) (g v) (h v) (e v l)) ∙ sym (sum_listed h)

  -- of terms under a test for one value, have that value's
  pub pick_listed : (g : ℕ → ℕ) (v : ℕ) → v < values → sum_over (λ x. when (eqb x v) (g x)) (listed d) ≡ when (lists d v) (g v)
  pick_listed g v h =
      sum_listed _
      ∙ sum_cong _ _ (below values) (λ x. when_swap (g x) (lists d x) (eqb x v))
      ∙ pick (λ x. when (lists d x) (g x)) v values h

  -- are above 0 where a listed value's term is, and at least each of them
  pub listed_some : (g : ℕ → ℕ) → 1 ≤ sum_over g (listed d) → (v : ℕ) × (v < values) × (lists d v ≡ true) × (1 ≤ g v)
  listed_some g h =
      let r = sum_some (λ v. when (lists d v) (g v)) values (rw (sum_listed g) at h) in
      let q = when_some (lists d r.0) (g r.0) r.2 in
      (r.0, r.1, q.0, q.1)

  pub listed_one : (g : ℕ → ℕ) (v : ℕ) → v < values → lists d v ≡ true → g v ≤ sum_over g (listed d)
  listed_one g v l e =
      let z : when (lists d v) (g v) ≡ g v = ap (λ (t : Bool). when t (g v)) e in
      omega (arith, sum_part (λ u. when (lists d u) (g u)) v values l, sum_listed g)

  -- how many values a domain lists
  pub listed_ones : length (listed d) ≡ sum_over (λ v. when (lists d v) 1) (below values)
  unfolding listed how_many
  listed_ones = how_many_sum (lists d) (below values)

  pub listed_le : length (listed d) ≤ values
  unfolding listed
  listed_le = omega (arith, length_only (lists d) (below values), length_below values)

-- where every value that d lists is listed by e
module _ (d e : ℕ) where
  pub listed_grows : (g h : ℕ → ℕ) → ((v : ℕ) → v < values → lists d v ⇒ lists e v) → ((v : ℕ) → g v ≤ h v) → sum_over g (listed d) ≤ sum_over h (listed e)
  listed_grows g h i le =
      rw (sum_listed d g, sum_listed e h) (sum_most _ _ values (λ v l. when_grows (lists d v) (lists e v) (g v) (h v) (i v l) (le v)))

  pub ones_most : ((v : ℕ) → v < values → lists d v ⇒ lists e v) → length (listed d) ≤ length (listed e)
  ones_most i = rw (listed_ones d, listed_ones e) (sum_most _ _ values (λ v l. when_grows (lists d v) (lists e v) 1 1 (i v l) (le_refl 1)))

  pub ones_tight : ((v : ℕ) → v < values → lists d v ⇒ lists e v) → length (listed e) ≤ length (listed d) → (v : ℕ) → v < values → lists e v ⇒ lists d v
  ones_tight i s v l q =
      let t = sum_tight (λ v. when (lists d v) 1) (λ v. when (lists e v) 1) values (λ v l. when_grows (lists d v) (lists e v) 1 1 (i v l) (le_refl 1)) (omega (arith, listed_ones d, listed_ones e)) v l in
      (when_some (lists d v) 1 (rw q at t)).0

-- ---- the bits of a number

-- a sum of powers of two has the bits that were put in
pow_sum : (ℕ → Bool) → ℕ → ℕ
pow_sum e n = sum_over (λ x. when (e x) (2 ^ x)) (below n)

pow_sum_suc : (e : ℕ → Bool) (n : ℕ) → pow_sum e (suc n) ≡ pow_sum e n + when (e n) (2 ^ n)
unfolding pow_sum
pow_sum_suc e n = sum_below (λ x. when (e x) (2 ^ x)) n

pow_sum_zero : (e : ℕ → Bool) → pow_sum e 0 ≡ 0
unfolding pow_sum
pow_sum_zero e = sum_nil _

pow_sum_lt : (e : ℕ → Bool) (n : ℕ) → pow_sum e n < 2 ^ n
pow_sum_lt e zero = rw (pow_sum_zero e) (lit< tt)
pow_sum_lt e (suc n) = omega (arith, pow_sum_lt e n, pow_sum_suc e n, when_grows (e n) true (2 ^ n) (2 ^ n) (λ q. refl) (le_refl (2 ^ n)), pow-succ' 2 n)

-- a power of two above the bit v does not touch it
above : (s n v : ℕ) → v < n → (s + 2 ^ n) / 2 ^ v % 2 ≡ s / 2 ^ v % 2
above s n v h = ap (λ (x : ℕ). (s + x) / 2 ^ v % 2) split ∙ ap (λ (x : ℕ). x % 2) (add-mul-div_right s (2 * 2 ^ (n - suc v)) (pow_pos v)) ∙ omega arith
  where
    back : n ≡ suc (n - suc v) + v
    back = omega arith

    split : 2 ^ n ≡ 2 * 2 ^ (n - suc v) * 2 ^ v
    split = ap (λ (x : ℕ). 2 ^ x) back ∙ pow-add 2 (suc (n - suc v)) v ∙ ap (λ (x : ℕ). x * 2 ^ v) (pow-succ' 2 (n - suc v))

top : (t : Bool) (s n : ℕ) → s < 2 ^ n → (s + when t (2 ^ n)) / 2 ^ n % 2 ≡ when t 1
top true s n h = ap (λ (x : ℕ). x / 2 ^ n % 2) turn ∙ ap (λ (x : ℕ). x % 2) (digits_div 1 h)
  where
    turn : s + 2 ^ n ≡ 1 * 2 ^ n + s
    turn = omega arith
top false s n h = ap (λ (x : ℕ). x / 2 ^ n % 2) turn ∙ ap (λ (x : ℕ). x % 2) (digits_div 0 h)
  where
    turn : s + 0 ≡ 0 * 2 ^ n + s
    turn = omega (arith, zero-mul (2 ^ n))

pow_sum_bit : (e : ℕ → Bool) (n v : ℕ) → v < n → pow_sum e n / 2 ^ v % 2 ≡ when (e v) 1
pow_sum_bit e zero v h = absurd (omega arith)
pow_sum_bit e (suc n) v h = ap (λ (x : ℕ). x / 2 ^ v % 2) (pow_sum_suc e n) ∙ go (λ l. pow_sum_bit e n v l) (eqb v n) refl
  where
    mid : (t : Bool) → v < n → (pow_sum e n + when t (2 ^ n)) / 2 ^ v % 2 ≡ pow_sum e n / 2 ^ v % 2
    mid true l = above (pow_sum e n) n v l
    mid false l = ap (λ (x : ℕ). x / 2 ^ v % 2) (add-zero (pow_sum e n))

    go : (v < n → pow_sum e n / 2 ^ v % 2 ≡ when (e v) 1) → (t : Bool) → eqb v n ≡ t → (pow_sum e n + when (e n) (2 ^ n)) / 2 ^ v % 2 ≡ when (e v) 1
    go r true q =
        let m : v ≡ n = eqb-true v n q in
        rw m (top (e n) (pow_sum e n) n (pow_sum_lt e n))
    go r false q =
        let m : v ≢ n = eqb-false v n q in
        let l : v < n = omega arith in
        mid (e n) l ∙ r l

-- a number is the sum of its bits' powers
low_bits : (d n : ℕ) → pow_sum (lists d) n ≡ d % 2 ^ n
low_bits d zero = pow_sum_zero (lists d) ∙ omega arith
low_bits d (suc n) = pow_sum_suc (lists d) n ∙ ap₂ ◌+◌ (low_bits d n) (one (d / 2 ^ n % 2) (omega arith)) ∙ turn
  where
    up : suc n ≡ 1 + n
    up = omega arith

    turn : d % 2 ^ n + d / 2 ^ n % 2 * 2 ^ n ≡ d % 2 ^ suc n
    turn = add_comm (d % 2 ^ n) (d / 2 ^ n % 2 * 2 ^ n) ∙ sym (mod-pow-add d 1 n) ∙ ap (λ (k : ℕ). d % 2 ^ k) (sym up)

    one : (k : ℕ) → k < 2 → when (eqb k 1) (2 ^ n) ≡ k * 2 ^ n
    one zero h = sym (zero-mul (2 ^ n))
    one (suc zero) h = omega arith
    one (suc (suc k)) h = absurd (omega arith)

-- domains that list the same values are the same
pub same_domain : (d e : ℕ) → d < 2 ^ values → e < 2 ^ values → ((v : ℕ) → v < values → lists d v ≡ lists e v) → d ≡ e
unfolding pow_sum
same_domain d e hd he s =
    sym (low_bits d values ∙ mod-eq_of_lt hd)
    ∙ sum_cong_below _ _ values (λ v l. ap (λ (t : Bool). when t (2 ^ v)) (s v l))
    ∙ low_bits e values ∙ mod-eq_of_lt he

-- zero is the empty domain, and the only one that lists nothing
pub empty_lists : (v : ℕ) → lists 0 v ≡ false
empty_lists v = ap (λ (x : ℕ). eqb (x % 2) 1) (zero-div (2 ^ v))

pub empty_only : (d : ℕ) → d < 2 ^ values → ((v : ℕ) → v < values → lists d v ≡ true → ⊥) → d ≡ 0
empty_only d h n = same_domain d 0 h (pow_pos values) (λ v l. none (lists d v) (n v l) ∙ sym (empty_lists v))
  where
    none : (t : Bool) → (t ≡ true → ⊥) → t ≡ false
    none true k = absurd (k refl)
    none false k = refl

-- a domain that is not empty lists a value
pub lists_one : (d : ℕ) → d < 2 ^ values → d ≢ 0 → 1 ≤ length (listed d)
lists_one d h z = go (ltb 0 (length (listed d))) refl
  where
    go : (t : Bool) → ltb 0 (length (listed d)) ≡ t → 1 ≤ length (listed d)
    go true q = ltb-true 0 (length (listed d)) q
    go false q =
        let none : length (listed d) ≤ 0 = ltb-false 0 (length (listed d)) q in
        absurd (z (empty_only d h (λ v l s. (let at = in_at 0 (listed d) v (in_listed d v l s) in omega (arith, at.1)))))

-- ---- the domain of the listed values that pass a test

module _ (d : ℕ) (p : ℕ → Bool) where
  domain_only : domain_of (only p (listed d)) ≡ pow_sum (λ v. lists d v && p v) values
  unfolding domain_of pow_sum
  domain_only = sum_listed_only d p (λ v. 2 ^ v)

  pub domain_lt : domain_of (only p (listed d)) < 2 ^ values
  domain_lt = rw domain_only (pow_sum_lt (λ v. lists d v && p v) values)

  -- lists just those
  pub lists_only : (v : ℕ) → v < values → lists (domain_of (only p (listed d))) v ≡ (lists d v && p v)
  lists_only v h =
      ap (λ (x : ℕ). eqb x 1) (ap (λ (x : ℕ). x / 2 ^ v % 2) domain_only ∙ pow_sum_bit (λ x. lists d x && p x) values v h)
      ∙ bool (lists d v && p v)
    where
      bool : (t : Bool) → eqb (when t 1) 1 ≡ t
      bool true = refl
      bool false = refl

-- what a test leaves and what it takes away are together what was listed
pub ones_apart : (d : ℕ) (z : ℕ → Bool) → length (only z (listed d)) + length (listed (domain_of (only (λ v. not (z v)) (listed d)))) ≡ length (listed d)
unfolding how_many
ones_apart d z =
    ap₂ ◌+◌ (how_many_sum z (listed d) ∙ sum_listed d _ ∙ sum_cong _ _ (below values) (λ v. sym (when_both 1 (lists d v) (z v))))
    (listed_ones _ ∙ sum_cong_below _ _ values (λ v l. ap (λ (t : Bool). when t 1) (lists_only d (λ u. not (z u)) v l)))
    ∙ sym (sum_plus _ _ (below values))
    ∙ sum_cong _ _ (below values) (λ v. parts (lists d v) (z v))
    ∙ sym (listed_ones d)
  where
    parts : (a b : Bool) → when (a && b) 1 + when (a && not b) 1 ≡ when a 1
    parts true true = refl
    parts true false = refl
    parts false b = refl
