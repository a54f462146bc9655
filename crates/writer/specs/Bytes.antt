-- The bytes of a board: what a board file holds, part by part. Definitions only.
use Rattle.std.specs.Prelude.{List, [], ◌∷◌, ◌++◌, ℕ, zero, suc, ◌*◌, ◌/◌, ◌%◌, get_or}
use Rattle.board.specs.declared.Row.{Row}
use Rattle.board.specs.declared.Board.{Board}
use Rattle.board.specs.Board.{mark, row_at}

-- f 0, then f 1, .., then f (n - 1)
unfoldable pub joined : (ℕ → List ℕ) → ℕ → List ℕ
joined f zero = []
joined f (suc n) = joined f n ++ f n

-- numbers of more than one byte stand low byte first
abbrev pub two_bytes : ℕ → List ℕ
two_bytes number = number % 256 ∷ number / 256 % 256 ∷ []

abbrev pub four_bytes : ℕ → List ℕ
four_bytes number = two_bytes (number % 65536) ++ two_bytes (number / 65536)

-- four bytes of domain for cell i
abbrev pub domain_bytes : List ℕ → ℕ → List ℕ
domain_bytes domains i = four_bytes (get_or domains i 0)

-- a row: a length byte, low (2), high (2), and per cell a cell number byte and a weight byte
abbrev pub head_bytes : ℕ → ℕ → ℕ → List ℕ
head_bytes len low high = (len % 256 ∷ two_bytes low) ++ two_bytes high

abbrev pub pair_bytes : List ℕ → List ℕ → ℕ → List ℕ
pair_bytes names weights k = get_or names k 0 % 256 ∷ get_or weights k 0 ∷ []

unfoldable pub row_bytes : Row → List ℕ
row_bytes row = head_bytes row.len row.low row.high ++ joined (pair_bytes row.names row.weights) row.len

abbrev pub line_bytes : List Row → ℕ → List ℕ
line_bytes lines i = row_bytes (row_at lines i)

-- the trailer: start of the rows (2), cells (1), rows (1), mark 53 4C
abbrev pub trailer_bytes : ℕ → ℕ → List ℕ
trailer_bytes cells rows = two_bytes (4 * cells) ++ (cells % 256 ∷ rows % 256 ∷ two_bytes mark)

-- from the front: the domains, the rows, the trailer
unfoldable pub file_of : Board → List ℕ
file_of board =
    joined (domain_bytes board.domains) board.cells
    ++ joined (line_bytes board.lines) board.rows
    ++ trailer_bytes board.cells board.rows
