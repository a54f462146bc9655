-- How a search goes on level by level, and how deep it can go. Definitions only.
use Rattle.std.specs.Prelude.{List, [], ◌∷◌, ℕ, ◌+◌, ltb, length}
use Rattle.told.specs.Told.{when}
use Rattle.counting.specs.Counting.{listed}
use Rattle.settling.specs.Settling.{Row}
use Rattle.searching.specs.Searching.{Found, nothing, or_else, searched}

-- domains still to be tried, in order
unfoldable pub search_all : List Row → List (List ℕ) → Found
search_all rs [] = nothing 0
search_all rs (d ∷ ds) = or_else (searched rs d) (search_all rs ds)

-- the cells with two or more values: an advice that is followed leaves one fewer
unfoldable pub open_cells : List ℕ → ℕ
open_cells [] = 0
open_cells (e ∷ d) = when (ltb 1 (length (listed e))) 1 + open_cells d
