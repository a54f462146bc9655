-- One layer from the layer beside it: what moving and adding does to its numbers, and that steps lead from number to number. Assumes nothing.
use Rattle.std.specs.Prelude.{◌≡◌, Bool, ◌&&◌, List, ℕ, zero, suc, ◌+◌, ◌-◌, ◌*◌, ◌≤◌, ◌<◌, leb, eqb, length, get_or, take, drop}
use Rattle.std.proofs.Math.Path.{refl}
use Rattle.std.proofs.Common.{sym, ap, ◌∙◌, zero-mul, arith, get_or-take, get_or-drop}
use Rattle.std.proofs.Math.Bool.{true, false}
use borrow.Author.Tests.{leb-true, leb-false, le-leb, lt-leb}
use Rattle.std.proofs.Math.Dec.{eqb-zero-suc}
use Rattle.told.specs.Told.{when}
use Rattle.sizes.specs.Sizes.{values, highest, sums}
use Rattle.listing.specs.Listing.{sum_over, below}
use Rattle.listing.specs.Sums.{and_right, when_cong, sum_cong, sum_nil, sum_turn, sum_part}
use Rattle.counting.specs.Counting.{within, lists, listed, forward, backward}
use Rattle.counting.proofs.Domains.{sum_listed}
use Rattle.counting.proofs.Tables.{forward_suc, backward_suc, backward_high}
use Rattle.layers.specs.Steps.{moved, step}

-- ---- a layer moved

module _ (t : List ℕ) (at rise fall b : ℕ) where
  -- what stays in the layer
  pub moved_in : rise ≤ b → b + fall ≤ highest → moved t at rise fall b ≡ get_or t (at + (b + fall - rise)) 0
  unfolding moved
  moved_in h k = rw (le-leb rise b h, le-leb (b + fall) highest k)

  -- and what does not
  pub moved_low : b < rise → moved t at rise fall b ≡ 0
  unfolding moved
  moved_low h = rw (lt-leb rise b h)

  pub moved_high : highest < b + fall → moved t at rise fall b ≡ 0
  unfolding moved
  moved_high h = rw (lt-leb (b + fall) highest h) (go (leb rise b))
    where
      go : (q : Bool) → when (q && false) (get_or t (at + (b + fall - rise)) 0) ≡ 0
      go true = refl
      go false = refl

pub ruleset moves = (moved_in, moved_low, moved_high)

-- moved one way only
pub moved_up : (t : List ℕ) (at s b : ℕ) → b < sums → moved t at s 0 b ≡ when (leb s b) (get_or t (at + (b - s)) 0)
moved_up t at s b h = go (leb s b) refl
  where
    go : (q : Bool) → leb s b ≡ q → moved t at s 0 b ≡ when q (get_or t (at + (b - s)) 0)
    go true e =
        let same : b + 0 - s ≡ b - s = omega arith in
        moved_in t at s 0 b (leb-true s b e) (omega arith) ∙ ap (λ (k : ℕ). get_or t (at + k) 0) same
    go false e = moved_low t at s 0 b (leb-false s b e)

pub moved_down : (t : List ℕ) (at s b : ℕ) → moved t at 0 s b ≡ when (leb (b + s) highest) (get_or t (at + (b + s)) 0)
moved_down t at s b = go (leb (b + s) highest) refl
  where
    go : (q : Bool) → leb (b + s) highest ≡ q → moved t at 0 s b ≡ when q (get_or t (at + (b + s)) 0)
    go true e =
        let same : b + s - 0 ≡ b + s = omega arith in
        moved_in t at 0 s b (omega arith) (leb-true (b + s) highest e) ∙ ap (λ (k : ℕ). get_or t (at + k) 0) same
    go false e = moved_high t at 0 s b (leb-false (b + s) highest e)

-- ---- a layer taken out of its table

moved_part : (t : List ℕ) (at m rise fall b : ℕ) → m ≡ sums → moved (take m (drop at t)) 0 rise fall b ≡ moved t at rise fall b
unfolding moved
moved_part t at m rise fall b e = when_cong (leb rise b && leb (b + fall) highest) _ _ here
  where
    here : (leb rise b && leb (b + fall) highest) ≡ true → get_or (take m (drop at t)) (0 + (b + fall - rise)) 0 ≡ get_or t (at + (b + fall - rise)) 0
    here h =
        let l = leb-true (b + fall) highest (and_right (leb rise b) (leb (b + fall) highest) h) in
        let z : 0 + (b + fall - rise) ≡ b + fall - rise = omega arith in
        rw z (get_or-take m (drop at t) (b + fall - rise) 0 (omega arith) ∙ get_or-drop at t (b + fall - rise) 0)

pub step_part : (t : List ℕ) (at m rise fall d b : ℕ) → m ≡ sums → step (take m (drop at t)) 0 rise fall d b ≡ step t at rise fall d b
step_part t at m rise fall d b e = sum_cong _ _ (listed d) (λ v. moved_part t at m (rise * v) (fall * v) b e)

-- ---- value after value

-- what the values below v bring to the number at b of the layer beside `from`
unfoldable pub brought : List ℕ → ℕ → ℕ → ℕ → ℕ → ℕ → ℕ
brought from rise fall d b v = sum_over (λ u. when (lists d u) (moved from 0 (rise * u) (fall * u) b)) (below v)

module _ (from : List ℕ) (rise fall d b : ℕ) where
  pub brought_none : brought from rise fall d b 0 ≡ 0
  unfolding brought
  brought_none = sum_nil _

  pub brought_more : (v : ℕ) → brought from rise fall d b (v + 1) ≡ brought from rise fall d b v + when (lists d v) (moved from 0 (rise * v) (fall * v) b)
  unfolding brought
  brought_more v = sym (sum_turn _ v)

  pub brought_all : (v : ℕ) → v ≡ values → brought from rise fall d b v ≡ step from 0 rise fall d b
  unfolding brought
  brought_all v e = rw e (sym (sum_listed d _))

  pub brought_part : (v : ℕ) → v < values → brought from rise fall d b v + when (lists d v) (moved from 0 (rise * v) (fall * v) b) ≤ step from 0 rise fall d b
  unfolding brought
  brought_part v h = rw (sum_listed d) (sum_part _ v values h)

pub ruleset brings = (brought_more, brought_all, brought_part)

-- ---- steps lead from the numbers at one i to those beside it

module _ (t ws ds : List ℕ) (i : ℕ) (in_row : i < length ds) (same : length ws ≡ length ds) where
  pub forward_step : (at b : ℕ) → b < sums → ((k : ℕ) → k < sums → get_or t (at + k) 0 ≡ forward ws ds i k)
      → step t at (get_or ws i 0) 0 (get_or ds i 0) b ≡ forward ws ds (suc i) b
  forward_step at b l held = sum_cong _ _ (listed (get_or ds i 0)) each ∙ sym (forward_suc ws ds i b in_row same)
    where
      each : (v : ℕ) → moved t at (get_or ws i 0 * v) (0 * v) b ≡ when (leb (get_or ws i 0 * v) b) (forward ws ds i (b - get_or ws i 0 * v))
      each v =
          rw (zero-mul v) (moved_up t at (get_or ws i 0 * v) b l)
          ∙ ap (when (leb (get_or ws i 0 * v) b)) (held (b - get_or ws i 0 * v) (omega arith))

  pub backward_step : (low high at b : ℕ) → high ≤ highest → ((k : ℕ) → k < sums → get_or t (at + k) 0 ≡ backward ws ds low high (suc i) k)
      → step t at 0 (get_or ws i 0) (get_or ds i 0) b ≡ backward ws ds low high i b
  backward_step low high at b limit held = sum_cong _ _ (listed (get_or ds i 0)) each ∙ sym (backward_suc ws ds low high i b in_row same)
    where
      go : (s : ℕ) (q : Bool) → leb s highest ≡ q → when q (get_or t (at + s) 0) ≡ backward ws ds low high (suc i) s
      go s true e = let l = leb-true s highest e in held s (omega arith)
      go s false e = let l = leb-false s highest e in sym (backward_high ws ds low high (suc i) s (omega arith))

      each : (v : ℕ) → moved t at (0 * v) (get_or ws i 0 * v) b ≡ backward ws ds low high (suc i) (b + get_or ws i 0 * v)
      each v =
          rw (zero-mul v) (moved_down t at (get_or ws i 0 * v) b)
          ∙ go (b + get_or ws i 0 * v) (leb (b + get_or ws i 0 * v) highest) refl

-- the sum of nothing is 0: from 0 to 0
pub nothing : (b : ℕ) → when (within 0 0 b) 1 ≡ when (eqb 0 b) 1
nothing zero = refl
nothing (suc b) = simp (le-leb 0 (suc b) (omega arith), lt-leb (suc b) 0 (omega arith), eqb-zero-suc b)
