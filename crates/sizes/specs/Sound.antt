-- What a row that neither 1 nor 2 refuses is known to be. Definitions only.
use Rattle.std.specs.Prelude.{◌≡◌, List, ℕ, ◌≤◌, ◌<◌, length}
use Rattle.sizes.specs.Sizes.{row_cells, highest}

-- weights, domains and limits that neither 1 nor 2 refuses
pub record SoundRow (ws ds : List ℕ) (low high : ℕ) : Type 0 where
  pub some : 0 < length ds
  pub most : length ds ≤ row_cells
  pub same : length ws ≡ length ds
  pub ordered : low ≤ high
  pub limit : high ≤ highest
