-- What the program prints of a board file, in the lines of the scope document. Definitions only.
use Rattle.std.specs.Prelude.{List, [], ◌++◌, ℕ, zero, suc, map, length, take, replicate, ltb, leb, cond, codes, slice_index}
use Rattle.told.specs.Told.{Told, refused, says}
use Rattle.sizes.specs.Sizes.{board_cells, board_rows, table_size}
use Rattle.board.specs.declared.Row.{Row}
use Rattle.board.specs.declared.Board.{Board}
use Rattle.board.specs.Board.{row_at}
use Rattle.reader.specs.Reading.{read_keeps}
use Rattle.row.specs.Answers.{total_says}
use Rattle.choosing.specs.Choosing.{Choice, dead, settled, advise}
use Rattle.advice.specs.Advising.{Said, advise_says, advise_leaves}
use Rattle.lines.specs.Lines.{named_text, refused_text, cells_text}

-- all rooms are zero at first
abbrev pub no_cells : List ℕ
no_cells = replicate board_cells 0

abbrev pub no_table : List ℕ
no_table = replicate table_size 0

-- how large the board is, the passes and the values struck
abbrev pub tally_text : ℕ → ℕ → ℕ → ℕ → List ℕ
tally_text cells rows passes struck =
    named_text (codes "CELLS ") cells ++ (named_text (codes " LINES ") rows
    ++ (named_text (codes "\nPASSES ") passes ++ (named_text (codes " STRUCK ") struck ++ codes "\n")))

-- the total of a row, or the number for no
abbrev pub total_text : Told ℕ → List ℕ
total_text (says total) = named_text (codes " TOTAL ") total
total_text (refused number) = named_text (codes " REFUSED ") number

-- the domains of the named cells, and none for a cell that no board has
abbrev pub domain_named : List ℕ → ℕ → ℕ
domain_named room name = cond (leb board_cells name) 0 (slice_index room name)

unfoldable pub domains_named : List ℕ → List ℕ → List ℕ
domains_named names room = map (domain_named room) names

-- the total of the row of the first len cells, where there are so many
unfoldable pub total_of_text : List ℕ → List ℕ → ℕ → ℕ → ℕ → List ℕ
total_of_text ws ds len low high =
    cond (leb len (length ws)) (cond (leb len (length ds)) (total_text (total_says (take len ws) (take len ds) low high no_table no_table)) []) []

-- a row's line
abbrev pub line_text : ℕ → Row → List ℕ → List ℕ
line_text line row room = named_text (codes "LINE ") line ++ (total_of_text row.weights (domains_named row.names room) row.len row.low row.high ++ codes "\n")

-- the lines of the rows below n that a board has
unfoldable pub lines_text : Board → List ℕ → ℕ → List ℕ
lines_text board room zero = []
lines_text board room (suc n) = lines_text board room n ++ cond (ltb n board.rows) (line_text n (row_at board.lines n) room) []

-- the last line: dead, settled, or the move
abbrev pub choice_text : Choice → List ℕ
choice_text dead = codes "DEAD\n"
choice_text settled = codes "SETTLED\n"
choice_text (advise move share) =
    named_text (codes "ADVICE CELL ") move.cell ++ (named_text (codes " VALUE ") move.value ++ (named_text (codes " LINE ") move.row
    ++ (named_text (codes " COUNT ") move.count ++ (named_text (codes " TOTAL ") move.total ++ codes "\n"))))

-- what was advised on a board, with the domains that then stand in the room
abbrev pub printed : Told Said → Board → List ℕ → List ℕ
printed (refused number) board room = refused_text number
printed (says said) board room =
    tally_text board.cells board.rows said.passes said.struck ++ (cells_text board.cells room board_cells
    ++ (lines_text board room board_rows ++ choice_text said.choice))

abbrev pub report_text : List ℕ → List ℕ
report_text file = printed (advise_says file no_cells no_table no_table) (read_keeps file) (advise_leaves file no_cells no_table no_table).0
