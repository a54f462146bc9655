-- What filled tables give for a cell is what counting means. Assumes nothing.
use Rattle.std.specs.Prelude.{◌≡◌, true, List, ℕ, suc, ◌+◌, ◌-◌, ◌*◌, ◌^◌, ◌≤◌, ◌<◌, length, get_or, drop}
use Rattle.std.proofs.Math.Path.{sym, ap}
use Rattle.std.proofs.Common.{ap₂, ◌∙◌, mul-zero, arith, lit<, length-take, length-drop, get_or-take, get_or-drop}
use Rattle.std.proofs.Math.Bool.{not}
use Rattle.std.proofs.Math.Dec.{eqb}
use Rattle.told.specs.Told.{when}
use Rattle.sizes.specs.Sizes.{values, sums}
use Rattle.sizes.specs.Sound.{SoundRow}
use Rattle.listing.specs.Listing.{only, how_many, sum_over, below, onto}
use Rattle.listing.specs.Sums.{when_cong, sum_only, sum_cong_below, sum_short, sum_nil, sum_turn, sum_part, how_many_sum, length_only}
use Rattle.counting.specs.Counting.{lists, listed, domain_of, total, count, forward, backward, kept, gone}
use Rattle.counting.proofs.Domains.{sum_listed, listed_le, domain_lt}
use Rattle.counting.proofs.Tables.{backward_high, total_backward}
use Rattle.counting.proofs.Counts.{count_law, count_le}
use Rattle.layers.specs.Tables.{forward_table, backward_table}
use Rattle.layers.specs.TableLaws.{fits, forward_length, forward_at, backward_length, backward_at, holds_room, holds_onto}
use Rattle.row.specs.Cells.{Filled, layer_of, through, ways_below, ways, Countable, keeps, loses, kept_below, gone_below}

-- ---- a cell, by the ways of its values

module _ (d : ℕ) (n : ℕ → ℕ) where
  kept_domain : sum_over (keeps d n) (below values) ≡ domain_of (only (λ v. not (eqb (n v) 0)) (listed d))
  unfolding domain_of
  kept_domain = sym (sum_only (λ v. 2 ^ v) (λ v. not (eqb (n v) 0)) (listed d) ∙ sum_listed d _)

  gone_many : sum_over (loses d n) (below values) ≡ length (only (λ v. eqb (n v) 0) (listed d))
  unfolding how_many
  gone_many = sym (how_many_sum (λ v. eqb (n v) 0) (listed d) ∙ sum_listed d _)

  -- only listed values matter
  module _ (m : ℕ → ℕ) (same : (v : ℕ) → v < values → lists d v ≡ true → n v ≡ m v) where
    keeps_same : sum_over (keeps d n) (below values) ≡ sum_over (keeps d m) (below values)
    keeps_same = sum_cong_below _ _ values (λ v l. when_cong (lists d v) _ _ (λ e. ap (λ (k : ℕ). when (not (eqb k 0)) (2 ^ v)) (same v l e)))

    loses_same : sum_over (loses d n) (below values) ≡ sum_over (loses d m) (below values)
    loses_same = sum_cong_below _ _ values (λ v l. when_cong (lists d v) _ _ (λ e. ap (λ (k : ℕ). when (eqb k 0) 1) (same v l e)))

-- ---- a layer of a table

module _ (t : List ℕ) (i : ℕ) where
  -- it is whole exactly where the table reaches to its end
  pub layer_room : length (layer_of t i) ≡ sums → sums * i + sums ≤ length t
  layer_room h = omega (arith, h, length-take (sums * i + sums - sums * i) (drop (sums * i) t), length-drop (sums * i) t)

  layer_whole : sums * i + sums ≤ length t → length (layer_of t i) ≡ sums
  layer_whole h = omega (arith, h, length-take (sums * i + sums - sums * i) (drop (sums * i) t), length-drop (sums * i) t)

  layer_at : (k : ℕ) → k < sums → get_or (layer_of t i) k 0 ≡ get_or t (sums * i + k) 0
  layer_at k h = get_or-take (sums * i + sums - sums * i) (drop (sums * i) t) k 0 (omega arith) ∙ get_or-drop (sums * i) t k 0

-- ---- value after value, and sum after sum: none yet, one more, and that none of this grows too large

module _ (before after : List ℕ) (w d : ℕ) where
  pub kept_none : kept_below before after w d 0 ≡ 0
  unfolding kept_below
  kept_none = sum_nil _

  pub kept_more : (v : ℕ) → kept_below before after w d (v + 1) ≡ kept_below before after w d v + keeps d (λ u. ways before after (w * u)) v
  unfolding kept_below
  kept_more v = sym (sum_turn _ v)

  pub kept_fits : (v : ℕ) → v < values → kept_below before after w d v + keeps d (λ u. ways before after (w * u)) v < 2 ^ values
  unfolding kept_below
  kept_fits v h =
      let n : ℕ → ℕ = λ u. ways before after (w * u) in
      omega (arith, sum_part (keeps d n) v values h, kept_domain d n, domain_lt d (λ u. not (eqb (n u) 0)))

  pub gone_none : gone_below before after w d 0 ≡ 0
  unfolding gone_below
  gone_none = sum_nil _

  pub gone_more : (v : ℕ) → gone_below before after w d (v + 1) ≡ gone_below before after w d v + loses d (λ u. ways before after (w * u)) v
  unfolding gone_below
  gone_more v = sym (sum_turn _ v)

  pub gone_fits : (v : ℕ) → v < values → gone_below before after w d v + loses d (λ u. ways before after (w * u)) v ≤ values
  unfolding gone_below
  gone_fits v h =
      let n : ℕ → ℕ = λ u. ways before after (w * u) in
      omega (arith, sum_part (loses d n) v values h, gone_many d n, length_only (λ u. eqb (n u) 0) (listed d), listed_le d)

pub ruleset strike_steps = (kept_none, kept_more, kept_fits, gone_none, gone_more, gone_fits)

module _ (before after : List ℕ) (s : ℕ) where
  pub ways_none : ways_below before after s 0 ≡ 0
  unfolding ways_below
  ways_none = sum_nil _

  pub ways_more : (b : ℕ) → ways_below before after s (b + 1) ≡ ways_below before after s b + get_or before b 0 * get_or after (s + b) 0
  unfolding ways_below
  ways_more b = sym (sum_turn _ b)

  pub ways_part : (b : ℕ) → b < sums - s → ways_below before after s b + get_or before b 0 * get_or after (s + b) 0 ≤ ways before after s
  unfolding ways_below
  ways_part b h = sum_part (through before after s) b (sums - s) h

pub ruleset way_steps = (ways_none, ways_more, ways_part)

-- ---- filled tables

-- tables that were just filled
pub just_filled : (ws ds : List ℕ) (low high : ℕ) (f f' b b' : List ℕ) → SoundRow ws ds low high
    → f' ≡ onto (forward_table ws ds) f → b' ≡ onto (backward_table ws ds low high) b → Filled ws ds low high f' b'
just_filled ws ds low high f f' b b' s p q = record { sound = s; forwards = holds_onto _ f f' p; backwards = holds_onto _ b b' q }

module _ (ws ds : List ℕ) (low high : ℕ) (f b : List ℕ) (filled : Filled ws ds low high f b) where
  pub total_there : get_or b 0 0 ≡ total ws ds low high
  total_there = backward_at ws ds low high b filled.backwards 0 0 (omega arith) (lit< tt) ∙ sym (total_backward ws ds low high)

  -- a cell of the row
  module _ (p : ℕ) (in_row : p < length ds) where
    abbrev w : ℕ
    w = get_or ws p 0

    abbrev d : ℕ
    d = get_or ds p 0

    each : (s k : ℕ) → k < sums - s → through (layer_of f p) (layer_of b (p + 1)) s k ≡ forward ws ds p k * backward ws ds low high (suc p) (k + s)
    each s k h =
        let at : sums * (p + 1) + (s + k) ≡ sums * suc p + (k + s) = omega arith in
        ap₂ ◌*◌ (layer_at f p k (omega arith) ∙ forward_at ws ds f filled.forwards p k (omega arith) (omega arith))
        (layer_at b (p + 1) (s + k) (omega arith) ∙ rw at (backward_at ws ds low high b filled.backwards (suc p) (k + s) (omega arith) (omega arith)))

    -- sums above 511 are above high, from where nothing is good
    past : (s k : ℕ) → sums - s ≤ k → forward ws ds p k * backward ws ds low high (suc p) (k + s) ≡ 0
    past s k h =
        let limit = filled.sound.limit in
        ap (λ (n : ℕ). forward ws ds p k * n) (backward_high ws ds low high (suc p) (k + s) (omega arith)) ∙ mul-zero _

    pub count_there : (v : ℕ) → v < values → when (lists (get_or ds p 0) v) (ways (layer_of f p) (layer_of b (p + 1)) (get_or ws p 0 * v)) ≡ count ws ds low high p v
    unfolding ways_below
    count_there v h =
        let limit = filled.sound.limit in
        ap (when (lists d v))
        (sum_cong_below _ _ (sums - w * v) (each (w * v)) ∙ sum_short _ (sums - w * v) sums (omega arith) (past (w * v)))
        ∙ sym (count_law ws ds low high p v in_row filled.sound.same h (omega arith))

    ways_count : (v : ℕ) → v < values → lists (get_or ds p 0) v ≡ true → ways (layer_of f p) (layer_of b (p + 1)) (get_or ws p 0 * v) ≡ count ws ds low high p v
    ways_count v h e = rw e at (count_there v h)

    pub countable : Countable (layer_of f p) (layer_of b (p + 1)) (get_or ws p 0) (get_or ds p 0)
    countable =
        let forward_room = holds_room _ f filled.forwards in
        let backward_room = holds_room _ b filled.backwards in
        record {
          before_whole = layer_whole f p (omega (arith, forward_length ws ds));
          after_whole = layer_whole b (p + 1) (omega (arith, backward_length ws ds low high));
          fit = λ v h e. rw (ways_count v h e) (fits _ (length ds) filled.sound.most (count_le ws ds low high p in_row v h));
        }

    -- what is kept and what is gone
    pub kept_there : kept_below (layer_of f p) (layer_of b (p + 1)) (get_or ws p 0) (get_or ds p 0) values ≡ domain_of (kept ws ds low high p)
    unfolding kept kept_below
    kept_there = keeps_same d (λ v. ways (layer_of f p) (layer_of b (p + 1)) (w * v)) (count ws ds low high p) ways_count ∙ kept_domain d (count ws ds low high p)

    pub gone_there : gone_below (layer_of f p) (layer_of b (p + 1)) (get_or ws p 0) (get_or ds p 0) values ≡ length (gone ws ds low high p)
    unfolding gone gone_below
    gone_there = loses_same d (λ v. ways (layer_of f p) (layer_of b (p + 1)) (w * v)) (count ws ds low high p) ways_count ∙ gone_many d (count ws ds low high p)
