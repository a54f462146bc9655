-- The two tables of a row: entry 512 * i + b is the number at (i, b), for i from 0 to the row's length and b from 0 to 511. Definitions only.
use Rattle.std.specs.Prelude.{List, ℕ, suc, ◌*◌, ◌/◌, ◌%◌, length}
use Rattle.sizes.specs.Sizes.{sums}
use Rattle.listing.specs.Listing.{by_place}
use Rattle.counting.specs.Counting.{forward, backward}

-- a number for each (i, b), by its entry
abbrev pub at_entry : (ℕ → ℕ → ℕ) → ℕ → ℕ
at_entry number k = number (k / sums) (k % sums)

unfoldable pub forward_table : List ℕ → List ℕ → List ℕ
forward_table ws ds = by_place (at_entry (forward ws ds)) (sums * suc (length ds))

unfoldable pub backward_table : List ℕ → List ℕ → ℕ → ℕ → List ℕ
backward_table ws ds low high = by_place (at_entry (backward ws ds low high)) (sums * suc (length ds))
