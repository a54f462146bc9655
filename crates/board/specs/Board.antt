-- The mark, the record of zeros, an array filled from the front, and when two boards are the same. Definitions only.
use Rattle.std.specs.Prelude.{◌≡◌, List, [], ◌++◌, ℕ, ◌-◌, ◌<◌, get_or, replicate}
use Rattle.sizes.specs.Sizes.{row_cells, board_cells, board_rows}
use Rattle.listing.specs.Listing.{by_place}
use Rattle.board.specs.declared.Row.{Row}
use Rattle.board.specs.declared.Board.{Board}

-- the mark that ends a board file, its bytes 53 4C as a number, low byte first
abbrev pub mark : ℕ
mark = 0x4C53

-- a row of zeros, and a board of zeros
abbrev pub zero_row : Row
zero_row = record { len = 0; low = 0; high = 0; names = replicate row_cells 0; weights = replicate row_cells 0 }

abbrev pub zero_board : Board
zero_board = record { cells = 0; domains = replicate board_cells 0; rows = 0; lines = replicate board_rows zero_row }

-- what stands past the end of a list of rows, by Rattle's own reading of an array
abbrev pub blank_row : Row
blank_row = record { len = 0; low = 0; high = 0; names = []; weights = [] }

-- row i
abbrev pub row_at : List Row → ℕ → Row
row_at lines i = get_or lines i blank_row

-- an array of m places: the first n hold f 0, f 1, .., f (n - 1), and the spare ones z
unfoldable pub filled : {A : Type 0} → (ℕ → A) → A → ℕ → ℕ → List A
filled f z n m = by_place f n ++ replicate (m - n) z

-- two rows are the same, and two boards: spare places don't matter
pub record SameRow (a b : Row) : Type 0 where
  pub len : a.len ≡ b.len
  pub low : a.low ≡ b.low
  pub high : a.high ≡ b.high
  pub names : (k : ℕ) → k < b.len → get_or a.names k 0 ≡ get_or b.names k 0
  pub weights : (k : ℕ) → k < b.len → get_or a.weights k 0 ≡ get_or b.weights k 0

pub record SameBoard (a b : Board) : Type 0 where
  pub cells : a.cells ≡ b.cells
  pub domains : (i : ℕ) → i < b.cells → get_or a.domains i 0 ≡ get_or b.domains i 0
  pub rows : a.rows ≡ b.rows
  pub lines : (i : ℕ) → i < b.rows → SameRow (row_at a.lines i) (row_at b.lines i)
