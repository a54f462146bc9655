-- What a tally says, the most that it counts, and what it says between two passes. Definitions only.
use Rattle.std.specs.Prelude.{◌≡◌, List, ℕ, ◌+◌, ◌*◌, ◌≤◌}
use Rattle.sizes.specs.Sizes.{values, board_cells}
use Rattle.counting.specs.Counting.{size}
use Rattle.settling.specs.Settling.{Row, Settled, settle}
use Rattle.settle.specs.declared.Tally.{Tally}

-- the passes and the struck values of a settling
abbrev pub tally_of : Settled → Tally
tally_of s = record { passes = s.passes; struck = s.struck }

-- the most values that a board's domains list
abbrev pub board_values : ℕ
board_values = values * board_cells

-- d is what the passes tallied leave of the domains given, each of which struck a value: to settle d is what is left to do
pub record Underway (rs : List Row) (given d : List ℕ) (tally : Tally) : Type 0 where
  pub left : (settle rs given).left ≡ (settle rs d).left
  pub passes : (settle rs given).passes ≡ tally.passes + (settle rs d).passes
  pub struck : tally.struck + size d ≡ size given
  pub most : tally.passes + size d ≤ size given
