-- Laws of a domain's values gone through from 0 on, up to an end past which none is listed. Assumes nothing.
use Rattle.std.specs.Prelude.{◌≡◌, refl, Bool, true, false, not, ◌&&◌, ◌||◌, List, length}
use Rattle.std.proofs.Math.Path.{sym, ap, ap₂}
use Rattle.std.proofs.Common.{◌∙◌, add-zero, le_refl, arith}
use Prim.Native.Nat.{ℕ, ◌+◌, ◌^◌, ◌≤◌, ◌<◌}
use Rattle.told.specs.Told.{when}
use Rattle.sizes.specs.Sizes.{values}
use Rattle.listing.specs.Listing.{only, how_many, sum_over, below}
use Rattle.listing.specs.Sums.{when_grows, sum_turn, sum_short, sum_nil, sum_le, sum_mono, sum_only, how_many_sum, length_below}
use Rattle.counting.specs.Counting.{lists, listed, domain_of}
use Rattle.counting.proofs.Domains.{sum_listed_only, domain_lt}
use Rattle.words.specs.Words.{any}
use Rattle.words.specs.Bits.{or_false, any_more, any_stop, bit_high}
use Rattle.reach.specs.Reach.{Parted}

-- whether some listed value passes a test: one value more, that is listed or not, and all
module _ (d : ℕ) (test : ℕ → Bool) where
  pub any_listed : (v : ℕ) → lists d v ≡ true → (any (λ u. lists d u && test u) v || test v) ≡ any (λ u. lists d u && test u) (v + 1)
  any_listed v e = sym (any_more _ v ∙ ap (λ (t : Bool). any (λ u. lists d u && test u) v || (t && test v)) e)

  pub any_unlisted : (v : ℕ) → lists d v ≡ false → any (λ u. lists d u && test u) v ≡ any (λ u. lists d u && test u) (v + 1)
  any_unlisted v e = sym (any_more _ v ∙ ap (λ (t : Bool). any (λ u. lists d u && test u) v || (t && test v)) e ∙ or_false _)

  pub any_end : (n : ℕ) → d < 2 ^ n → n ≤ values → any (λ u. lists d u && test u) n ≡ any (λ u. lists d u && test u) values
  any_end n h m = any_stop _ n values m (λ k l. ap (λ (t : Bool). t && test k) (bit_high d n k h l))

-- the members of a list are as many as the ones among them
pub ones : (p : ℕ → Bool) (xs : List ℕ) → sum_over (λ v. 1) (only p xs) ≡ length (only p xs)
unfolding how_many
ones p xs = sum_only (λ v. 1) p xs ∙ sym (how_many_sum p xs)

turn : (g : ℕ → ℕ) (v x y : ℕ) → x ≡ sum_over g (below v) → y ≡ g v → x + y ≡ sum_over g (below (v + 1))
turn g v x y e k = ap₂ ◌+◌ e k ∙ sum_turn g v

stay : (g : ℕ → ℕ) (v x : ℕ) → x ≡ sum_over g (below v) → 0 ≡ g v → x ≡ sum_over g (below (v + 1))
stay g v x e k = sym (add-zero x) ∙ turn g v x 0 e k

-- the values parted: none yet, one more, that is not listed, is left or is lost, and all
module _ (d : ℕ) (test : ℕ → Bool) where
  pub parted_none : Parted d test 0 0 0
  parted_none = record { left = sym (sum_nil _); lost = sym (sum_nil _) }

  module _ (x y v : ℕ) (p : Parted d test x y v) where
    pub parted_unlisted : lists d v ≡ false → Parted d test x y (v + 1)
    parted_unlisted e = record {
      left = stay _ v x p.left (sym (ap (λ (t : Bool). when (t && test v) (2 ^ v)) e));
      lost = stay _ v y p.lost (sym (ap (λ (t : Bool). when (t && not (test v)) 1) e));
    }

    pub parted_left : lists d v ≡ true → test v ≡ true → Parted d test (x + 2 ^ v) y (v + 1)
    parted_left e k = record {
      left = turn _ v x (2 ^ v) p.left (sym (ap₂ (λ (t u : Bool). when (t && u) (2 ^ v)) e k));
      lost = stay _ v y p.lost (sym (ap₂ (λ (t u : Bool). when (t && not u) 1) e k));
    }

    pub parted_lost : lists d v ≡ true → test v ≡ false → Parted d test x (y + 1) (v + 1)
    parted_lost e k = record {
      left = stay _ v x p.left (sym (ap₂ (λ (t u : Bool). when (t && u) (2 ^ v)) e k));
      lost = turn _ v y 1 p.lost (sym (ap₂ (λ (t u : Bool). when (t && not u) 1) e k));
    }

    -- what is left is a domain, and no more are lost than there are
    pub left_fits : v ≤ values → x < 2 ^ values
    unfolding domain_of
    left_fits h = omega (arith, p.left, sum_mono (λ u. when (lists d u && test u) (2 ^ u)) v values h, sum_listed_only d test (λ u. 2 ^ u), domain_lt d test)

    pub lost_fits : y ≤ v
    lost_fits = omega (arith, p.lost, sum_le (λ u. when (lists d u && not (test u)) 1) 1 (below v) (λ u. when_grows (lists d u && not (test u)) true 1 1 (λ q. refl) (le_refl 1)), length_below v)

    module _ (h : d < 2 ^ v) (m : v ≤ values) where
      short : (other : ℕ → Bool) (g : ℕ → ℕ) → sum_over (λ u. when (lists d u && other u) (g u)) (below v) ≡ sum_over g (only other (listed d))
      short other g = sum_short _ v values m (λ u l. ap (λ (t : Bool). when (t && other u) (g u)) (bit_high d v u h l)) ∙ sym (sum_listed_only d other g)

      pub left_all : x ≡ domain_of (only test (listed d))
      unfolding domain_of
      left_all = p.left ∙ short test (λ u. 2 ^ u)

      pub lost_all : y ≡ length (only (λ u. not (test u)) (listed d))
      lost_all = p.lost ∙ short (λ u. not (test u)) (λ u. 1) ∙ ones _ (listed d)
