-- A domain cut to one of its values, and without it; and one domain of many put in another's place. Assumes nothing.
use Rattle.std.specs.Prelude.{◌≡◌, refl, Bool, ◌&&◌, List, [], ◌∷◌, ℕ, zero, suc, ◌+◌, ◌-◌, ◌^◌, ◌≤◌, ◌<◌, get_or, set}
use Rattle.std.proofs.Math.Path.{sym, ap}
use Rattle.std.proofs.Common.{◌∙◌, le_of_suc-le-suc, eq-eqb, ne_eqb, length-set, get_or-set_same, get_or-set_other}
use Rattle.std.proofs.Math.Bool.{true, false, not}
use Rattle.std.proofs.Math.Decide.{ℕ_discrete}
use native.Mathlib.Omega.{arith}
use Rattle.std.proofs.Math.Dec.{eqb}
use Rattle.std.proofs.Math.ListN.{length}
use Rattle.told.specs.Told.{when}
use Rattle.sizes.specs.Sizes.{values}
use Rattle.listing.specs.Listing.{only, how_many, sum_over}
use Rattle.listing.specs.Sums.{and_left, when_both, when_swap, sum_only, sum_cong, sum_cong_below, sum_plus, pick, how_many_sum}
use Rattle.counting.specs.Counting.{lists, listed, domain_of, size, NoNewValue}
use Rattle.counting.proofs.Domains.{◌⇒◌, pick_listed, listed_ones, same_domain, domain_lt, lists_only, ones_apart}

-- ---- one domain and one of its values

-- a domain is the sum of its values' powers
whole : (e : ℕ) → e < 2 ^ values → domain_of (listed e) ≡ e
unfolding domain_of
whole e small =
    sym (sum_only (λ u. 2 ^ u) (λ u. true) (listed e))
    ∙ same_domain (domain_of (only (λ u. true) (listed e))) e (domain_lt e (λ u. true)) small (λ u k. lists_only e (λ w. true) u k ∙ and_true (lists e u))
  where
    and_true : (t : Bool) → (t && true) ≡ t
    and_true true = refl
    and_true false = refl

module _ (e v : ℕ) (small : e < 2 ^ values) (fits : v < values) (there : lists e v ≡ true) where
  power_is : 2 ^ v ≡ domain_of (only (λ u. eqb u v) (listed e))
  unfolding domain_of
  power_is =
      sym (sum_only (λ u. 2 ^ u) (λ u. eqb u v) (listed e) ∙ pick_listed e (λ u. 2 ^ u) v fits ∙ ap (λ (t : Bool). when t (2 ^ v)) there)

  parts : 2 ^ v + domain_of (only (λ u. not (eqb u v)) (listed e)) ≡ e
  unfolding domain_of
  parts =
      ap (λ (n : ℕ). n + domain_of (only (λ u. not (eqb u v)) (listed e))) (power_is ∙ sum_only (λ u. 2 ^ u) (λ u. eqb u v) (listed e))
      ∙ ap (λ (n : ℕ). sum_over (λ u. when (eqb u v) (2 ^ u)) (listed e) + n) (sum_only (λ u. 2 ^ u) (λ u. not (eqb u v)) (listed e))
      ∙ sym (sum_plus (λ u. when (eqb u v) (2 ^ u)) (λ u. when (not (eqb u v)) (2 ^ u)) (listed e))
      ∙ sum_cong _ _ (listed e) (λ u. either (eqb u v) (2 ^ u))
      ∙ whole e small
    where
      either : (t : Bool) (n : ℕ) → when t n + when (not t) n ≡ n
      either true n = omega arith
      either false n = omega arith

  pub power_le : 2 ^ v ≤ e
  power_le = omega (arith, parts)

  rest_is : e - 2 ^ v ≡ domain_of (only (λ u. not (eqb u v)) (listed e))
  rest_is = omega (arith, parts)

  -- what the domain cut to v lists, and the domain without it
  pub cut_lists : (u : ℕ) → u < values → lists (2 ^ v) u ≡ (lists e u && eqb u v)
  cut_lists u k = ap (λ (x : ℕ). lists x u) power_is ∙ lists_only e (λ w. eqb w v) u k

  pub rest_lists : (u : ℕ) → u < values → lists (e - 2 ^ v) u ≡ (lists e u && not (eqb u v))
  rest_lists u k = ap (λ (x : ℕ). lists x u) rest_is ∙ lists_only e (λ w. not (eqb w v)) u k

  pub cut_within : (u : ℕ) → u < values → lists (2 ^ v) u ⇒ lists e u
  cut_within u k q = and_left (lists e u) _ (sym (cut_lists u k) ∙ q)

  pub rest_within : (u : ℕ) → u < values → lists (e - 2 ^ v) u ⇒ lists e u
  rest_within u k q = and_left (lists e u) _ (sym (rest_lists u k) ∙ q)

  -- each listed value is v, or listed without it
  pub cut_has : lists (2 ^ v) v ≡ true
  cut_has = cut_lists v fits ∙ simp (there, eq-eqb v v refl)

  pub rest_has : (u : ℕ) → u < values → lists e u ≡ true → (u ≡ v → ⊥) → lists (e - 2 ^ v) u ≡ true
  rest_has u k q n = rest_lists u k ∙ simp (q, ne_eqb u v n)

  pub cut_small : 2 ^ v < 2 ^ values
  cut_small = rw power_is (domain_lt e (λ u. eqb u v))

  pub rest_small : e - 2 ^ v < 2 ^ values
  rest_small = omega (arith, small)

  -- how many they list
  pub cut_ones : length (listed (2 ^ v)) ≡ 1
  cut_ones =
      listed_ones (2 ^ v)
      ∙ sum_cong_below _ _ values (λ u k. ap (λ (t : Bool). when t 1) (cut_lists u k) ∙ when_both 1 (lists e u) (eqb u v) ∙ when_swap 1 (lists e u) (eqb u v))
      ∙ pick (λ u. when (lists e u) 1) v values fits
      ∙ ap (λ (t : Bool). when t 1) there

  pub rest_ones : length (listed (e - 2 ^ v)) + 1 ≡ length (listed e)
  unfolding how_many
  rest_ones =
      let one : length (only (λ u. eqb u v) (listed e)) ≡ 1 =
      how_many_sum (λ u. eqb u v) (listed e) ∙ pick_listed e (λ u. 1) v fits ∙ ap (λ (t : Bool). when t 1) there in
      let all = ones_apart e (λ u. eqb u v) in
      omega (arith, ap (λ (x : ℕ). length (listed x)) rest_is)

-- ---- one domain of many

-- a new domain that lists nothing new
pub set_within : (d : List ℕ) (c x : ℕ) → c < length d → ((u : ℕ) → u < values → lists x u ⇒ lists (get_or d c 0) u) → NoNewValue (set d c x) d
set_within d c x l h = record { cells = length-set d c x; values_there = λ p v k. go p v k (ℕ_discrete p c) }
  where
    go : (p v : ℕ) → v < values → Dec (p ≡ c) → lists (get_or (set d c x) p 0) v ⇒ lists (get_or d p 0) v
    go p v k (yes e) q = rw e (h v k (rw (e, get_or-set_same d c x 0 l) at q))
    go p v k (no n) q = rw (get_or-set_other d c p x 0 n) at q

-- how many values are then listed
pub size_set : (d : List ℕ) (c x : ℕ) → c < length d → size (set d c x) + length (listed (get_or d c 0)) ≡ size d + length (listed x)
unfolding size
size_set [] c x l = absurd (omega arith)
size_set (y ∷ d) zero x l = omega arith
size_set (y ∷ d) (suc c) x l = omega (arith, size_set d c x (le_of_suc-le-suc l))
