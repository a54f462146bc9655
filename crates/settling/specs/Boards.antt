-- A board's record as rows: what it says, whatever its spare places hold. Definitions only.
use Rattle.std.specs.Prelude.{List, ℕ, get_or, take}
use Rattle.listing.specs.Listing.{by_place}
use Rattle.board.specs.declared.Row.{Row as Line}
use Rattle.board.specs.declared.Board.{Board}
use Rattle.board.specs.Board.{row_at}
use Rattle.settling.specs.Settling.{Row, Settled, settle}

-- the first n entries of an array
abbrev pub front : ℕ → List ℕ → List ℕ
front n xs = by_place (λ k. get_or xs k 0) n

-- the row of these cells and weights, and the row that a row's record says
abbrev pub row_with : List ℕ → List ℕ → ℕ → ℕ → Row
row_with cells weights low high = record { cells = cells; weights = weights; low = low; high = high }

abbrev pub row_of : Line → Row
row_of line = row_with (front line.len line.names) (front line.len line.weights) line.low line.high

-- the first n rows, and all
abbrev pub rows_to : List Line → ℕ → List Row
rows_to lines n = by_place (λ i. row_of (row_at lines i)) n

abbrev pub rows_of : Board → List Row
rows_of board = rows_to board.lines board.rows

-- settling the domains that a room has at its front, one for each cell of the board
abbrev pub settle_room : Board → List ℕ → Settled
settle_room board room = settle (rows_of board) (take board.cells room)
