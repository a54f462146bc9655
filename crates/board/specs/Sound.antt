-- What a board that is not refused is known to be. Definitions only.
use Rattle.std.specs.Prelude.{◌≡◌, ℕ, ◌≤◌, ◌<◌, get_or}
use Rattle.sizes.specs.Sizes.{row_cells, highest, board_cells, board_rows}
use Rattle.board.specs.declared.Row.{Row}
use Rattle.board.specs.declared.Board.{Board}
use Rattle.board.specs.Board.{row_at}

-- a board's sizes
pub record SoundSizes (cells rows : ℕ) : Type 0 where
  pub cells_some : 0 < cells
  pub cells_most : cells ≤ board_cells
  pub rows_some : 0 < rows
  pub rows_most : rows ≤ board_rows

-- a row's length and limits
pub record SoundHead (len low high : ℕ) : Type 0 where
  pub some : 0 < len
  pub most : len ≤ row_cells
  pub ordered : low ≤ high
  pub limit : high ≤ highest

-- a row: its cells are on the board, and no two places hold the same
pub record SoundLine (cells : ℕ) (row : Row) : Type 0 where
  pub head : SoundHead row.len row.low row.high
  pub known : (k : ℕ) → k < row.len → get_or row.names k 0 < cells
  pub once : (j k : ℕ) → j < k → k < row.len → get_or row.names j 0 ≡ get_or row.names k 0 → ⊥

-- a board
pub record SoundBoard (board : Board) : Type 0 where
  pub sizes : SoundSizes board.cells board.rows
  pub lines : (i : ℕ) → i < board.rows → SoundLine board.cells (row_at board.lines i)
