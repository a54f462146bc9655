-- The board file: its numbers, its trailer, its rows, and the board that it holds. Definitions only.
use Rattle.std.specs.Prelude.{List, ℕ, zero, suc, ◌+◌, ◌-◌, ◌*◌, length, get_or, take}
use Rattle.sizes.specs.Sizes.{row_cells, board_cells, board_rows}
use Rattle.board.specs.declared.Row.{Row}
use Rattle.board.specs.declared.Board.{Board}
use Rattle.board.specs.Board.{zero_row, filled}

-- numbers of more than one byte stand low byte first
abbrev pub byte : List ℕ → ℕ → ℕ
byte file at = get_or file at 0

abbrev pub two : List ℕ → ℕ → ℕ
two file at = byte file at + 256 * byte file (at + 1)

abbrev pub four : List ℕ → ℕ → ℕ
four file at = two file at + 65536 * two file (at + 2)

-- the trailer is the last six bytes: start of the rows (2), cells (1), rows (1), mark (2)
abbrev pub trailer_size : ℕ
trailer_size = 6

abbrev pub trailer : List ℕ → ℕ
trailer file = length file - trailer_size

-- the file whose trailer starts at a place: the bytes up to that trailer's end, or all where they are fewer
abbrev pub file_at : List ℕ → ℕ → List ℕ
file_at file place = take (place + trailer_size) file

abbrev pub start_in : List ℕ → ℕ
start_in file = two file (trailer file)

abbrev pub cells_in : List ℕ → ℕ
cells_in file = byte file (trailer file + 2)

abbrev pub rows_in : List ℕ → ℕ
rows_in file = byte file (trailer file + 3)

abbrev pub mark_in : List ℕ → ℕ
mark_in file = two file (trailer file + 4)

-- four bytes of domain per cell, from the front
abbrev pub domain_in : List ℕ → ℕ → ℕ
domain_in file i = four file (4 * i)

-- the row at a place: a length byte, low (2), high (2), and per cell a cell number byte and a weight byte
abbrev pub name_in : List ℕ → ℕ → ℕ → ℕ
name_in file at k = byte file (at + 5 + 2 * k)

abbrev pub weight_in : List ℕ → ℕ → ℕ → ℕ
weight_in file at k = byte file (at + 6 + 2 * k)

abbrev pub names_in : List ℕ → ℕ → List ℕ
names_in file at = filled (name_in file at) 0 (byte file at) row_cells

unfoldable pub row_in : List ℕ → ℕ → Row
row_in file at =
    record {
      len = byte file at;
      low = two file (at + 1);
      high = two file (at + 3);
      names = names_in file at;
      weights = filled (weight_in file at) 0 (byte file at) row_cells;
    }

abbrev pub row_end : List ℕ → ℕ → ℕ
row_end file at = at + 5 + 2 * byte file at

-- where row i starts: the first after the domains, each other where the one before it ends
unfoldable pub row_place : List ℕ → ℕ → ℕ
row_place file zero = 4 * cells_in file
row_place file (suc i) = row_end file (row_place file i)

abbrev pub line_in : List ℕ → ℕ → Row
line_in file i = row_in file (row_place file i)

abbrev pub lines_in : List ℕ → List Row
lines_in file = filled (line_in file) zero_row (rows_in file) board_rows

-- the board that the file holds; its spare places are zero
unfoldable pub board_in : List ℕ → Board
board_in file =
    record { cells = cells_in file; domains = filled (domain_in file) 0 (cells_in file) board_cells; rows = rows_in file; lines = lines_in file }
