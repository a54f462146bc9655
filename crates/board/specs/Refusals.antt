-- What the reader and the writer of a board both refuse, in document 01's order. Definitions only.
use Rattle.std.specs.Prelude.{List, ℕ, get_or, eqb, ltb, leb}
use Rattle.told.specs.Told.{when, first, firsts}
use Rattle.sizes.specs.Sizes.{board_cells, board_rows, length_refuses, limits_refuse}
use Rattle.board.specs.declared.Row.{Row}
use Rattle.board.specs.declared.Board.{Board}
use Rattle.board.specs.Board.{row_at}

-- 8: cells or rows outside the sizes
unfoldable pub sizes_refuse : ℕ → ℕ → ℕ
sizes_refuse cells rows =
    first (when (eqb cells 0) 8)
    (first (when (ltb board_cells cells) 8)
    (first (when (eqb rows 0) 8)
    (when (ltb board_rows rows) 8)))

-- 1, 2: a row's length and its limits
unfoldable pub head_refuses : ℕ → ℕ → ℕ → ℕ
head_refuses len low high = first (length_refuses len) (limits_refuse low high)

-- 11: a row names a cell that the board hasn't
abbrev pub unknown_refuses : ℕ → ℕ → ℕ
unknown_refuses cells name = when (leb cells name) 11

-- 12: pair k names the cell that pair j names, and the cell that an earlier pair names
abbrev pub same_name : List ℕ → ℕ → ℕ → ℕ
same_name names k j = when (eqb (get_or names j 0) (get_or names k 0)) 12

unfoldable pub repeat_refuses : List ℕ → ℕ → ℕ
repeat_refuses names k = firsts (same_name names k) k

-- 11, 12: pair k of a row on a board of so many cells
unfoldable pub pair_refuses : ℕ → List ℕ → ℕ → ℕ
pair_refuses cells names k = first (unknown_refuses cells (get_or names k 0)) (repeat_refuses names k)

-- for each pair 11, 12
abbrev pub pairs_refuse : ℕ → List ℕ → ℕ → ℕ
pairs_refuse cells names len = firsts (pair_refuses cells names) len

-- 1, 2 and for each pair 11, 12: a row, and row i
unfoldable pub board_row_refuses : ℕ → Row → ℕ
board_row_refuses cells row = first (head_refuses row.len row.low row.high) (pairs_refuse cells row.names row.len)

abbrev pub line_refuses : ℕ → List Row → ℕ → ℕ
line_refuses cells lines i = board_row_refuses cells (row_at lines i)

-- 8, then each row
unfoldable pub board_refuses : Board → ℕ
board_refuses board = first (sizes_refuse board.cells board.rows) (firsts (line_refuses board.cells board.lines) board.rows)
