-- What filling the tables asks for, and how the code makes a layer, the 512 numbers at one i, from the layer beside it. Definitions only.
use Rattle.std.specs.Prelude.{◌≡◌, ◌&&◌, List, ℕ, ◌+◌, ◌-◌, ◌*◌, ◌≤◌, leb, length, get_or, take}
use Rattle.told.specs.Told.{when}
use Rattle.sizes.specs.Sizes.{highest, table_size}
use Rattle.sizes.specs.Sound.{SoundRow}
use Rattle.listing.specs.Listing.{sum_over}
use Rattle.counting.specs.Counting.{listed}

-- a sound row, and tables with room for any
pub record Fillable (ws ds : List ℕ) (low high : ℕ) (forward backward : List ℕ) : Type 0 where
  pub sound : SoundRow ws ds low high
  pub forward_room : table_size ≤ length forward
  pub backward_room : table_size ≤ length backward

-- a room holds a table at its front
abbrev pub Holds : List ℕ → List ℕ → Type 0
Holds table room = take (length table) room ≡ table

-- the number at b of the layer that stands in the table t from `at` on, moved up by rise and down by fall; what leaves the layer is gone
unfoldable pub moved : List ℕ → ℕ → ℕ → ℕ → ℕ → ℕ
moved t at rise fall b = when (leb rise b && leb (b + fall) highest) (get_or t (at + (b + fall - rise)) 0)

-- the number at b of the layer beside it: each value that d lists brings the layer, moved by its weight
abbrev pub step : List ℕ → ℕ → ℕ → ℕ → ℕ → ℕ → ℕ
step t at rise fall d b = sum_over (λ v. moved t at (rise * v) (fall * v) b) (listed d)
