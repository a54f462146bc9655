-- What the inner calls ask of the tables, and what they find in them cell by cell. Definitions only.
use Rattle.std.specs.Prelude.{◌≡◌, true, not, List, ℕ, ◌+◌, ◌-◌, ◌*◌, ◌^◌, ◌<◌, eqb, length, get_or, slice_range}
use Rattle.told.specs.Told.{when}
use Rattle.sizes.specs.Sizes.{values, sums}
use Rattle.sizes.specs.Sound.{SoundRow}
use Rattle.listing.specs.Listing.{sum_over, below}
use Rattle.counting.specs.Counting.{lists}
use Rattle.layers.specs.Tables.{forward_table, backward_table}
use Rattle.layers.specs.Steps.{Holds}

-- a sound row, and tables that hold its numbers
pub record Filled (ws ds : List ℕ) (low high : ℕ) (forward backward : List ℕ) : Type 0 where
  pub sound : SoundRow ws ds low high
  pub forwards : Holds (forward_table ws ds) forward
  pub backwards : Holds (backward_table ws ds low high) backward

-- the layer of a table at i: its 512 numbers
abbrev pub layer_of : List ℕ → ℕ → List ℕ
layer_of table i = slice_range table (sums * i) (sums * i + sums)

-- from the layer before a cell and the layer after it: the ways to fill the row by which the cells before come to b and the cell adds s
abbrev pub through : List ℕ → List ℕ → ℕ → ℕ → ℕ
through before after s b = get_or before b 0 * get_or after (s + b) 0

-- over every sum below b
unfoldable pub ways_below : List ℕ → List ℕ → ℕ → ℕ → ℕ
ways_below before after s b = sum_over (through before after s) (below b)

-- over every sum from which it stays below 512
abbrev pub ways : List ℕ → List ℕ → ℕ → ℕ
ways before after s = ways_below before after s (sums - s)

-- two whole layers, by which the ways of every value that d lists fit
pub record Countable (before after : List ℕ) (w d : ℕ) : Type 0 where
  pub before_whole : length before ≡ sums
  pub after_whole : length after ≡ sums
  pub fit : (v : ℕ) → v < values → lists d v ≡ true → ways before after (w * v) < 2 ^ 64

-- by the ways n v of each value v that d lists: what v adds to the domain that is kept, and to the number of values gone
abbrev pub keeps : ℕ → (ℕ → ℕ) → ℕ → ℕ
keeps d n v = when (lists d v) (when (not (eqb (n v) 0)) (2 ^ v))

abbrev pub loses : ℕ → (ℕ → ℕ) → ℕ → ℕ
loses d n v = when (lists d v) (when (eqb (n v) 0) 1)

-- what is kept of the values below v in a cell of weight w and domain d, and how many of them are gone
unfoldable pub kept_below : List ℕ → List ℕ → ℕ → ℕ → ℕ → ℕ
kept_below before after w d v = sum_over (keeps d (λ u. ways before after (w * u))) (below v)

unfoldable pub gone_below : List ℕ → List ℕ → ℕ → ℕ → ℕ → ℕ
gone_below before after w d v = sum_over (loses d (λ u. ways before after (w * u))) (below v)
