-- What the reader refuses, in document 01's order, and what it says and keeps. Definitions only.
use Rattle.std.specs.Prelude.{List, not, ℕ, ◌+◌, ◌*◌, length, eqb, ltb, Result, Ok, Err}
use Rattle.told.specs.declared.Refusal.{Refusal}
use Rattle.told.specs.Told.{Told, refused, says, when, first, firsts, answer, leave, number_of, told_by}
use Rattle.sizes.specs.Sizes.{file_size}
use Rattle.board.specs.declared.Board.{Board}
use Rattle.board.specs.Board.{mark, zero_board}
use Rattle.board.specs.Refusals.{sizes_refuse, head_refuses, pairs_refuse}
use Rattle.reader.specs.declared.Counts.{Counts}
use Rattle.reader.specs.File.{byte, two, trailer, start_in, cells_in, rows_in, mark_in, names_in, row_end, row_place, board_in}

-- 6: file below 6 or above 1,062 bytes
abbrev pub size_refuses : ℕ → ℕ
size_refuses size = first (when (ltb size 6) 6) (when (ltb file_size size) 6)

-- 7: mark wrong
abbrev pub mark_refuses : ℕ → ℕ
mark_refuses found = when (not (eqb found mark)) 7

-- 9: start isn't four times the cells, or lies past the trailer
abbrev pub start_refuses : ℕ → ℕ → ℕ → ℕ
start_refuses start cells end = first (when (not (eqb start (4 * cells))) 9) (when (ltb end start) 9)

-- 7, 8, 9
unfoldable pub trailer_refuses : List ℕ → ℕ
trailer_refuses file =
    first (mark_refuses (mark_in file))
    (first (sizes_refuse (cells_in file) (rows_in file))
    (start_refuses (start_in file) (cells_in file) (trailer file)))

-- the row at a place: its five-byte head (10), 1, 2, its pairs fit (10), for each pair 11, 12
unfoldable pub row_in_refuses : List ℕ → ℕ → ℕ
row_in_refuses file at =
    first (when (ltb (trailer file) (at + 5)) 10)
    (first (head_refuses (byte file at) (two file (at + 1)) (two file (at + 3)))
    (first (when (ltb (trailer file) (row_end file at)) 10)
    (pairs_refuse (cells_in file) (names_in file at) (byte file at))))

abbrev pub line_in_refuses : List ℕ → ℕ → ℕ
line_in_refuses file i = row_in_refuses file (row_place file i)

-- 10: bytes are left over between the last row and the trailer
abbrev pub rest_refuses : ℕ → ℕ → ℕ
rest_refuses at end = when (not (eqb at end)) 10

-- each row, then left-over bytes
unfoldable pub rows_refuse : List ℕ → ℕ
rows_refuse file = first (firsts (line_in_refuses file) (rows_in file)) (rest_refuses (row_place file (rows_in file)) (trailer file))

-- 6, 7, 8, 9, then the rows
unfoldable pub file_refuses : List ℕ → ℕ
file_refuses file = first (size_refuses (length file)) (first (trailer_refuses file) (rows_refuse file))

-- document 01's number or what was read, for every case of the reader's answer with the board beside it
abbrev pub told : Result (Unit {0}) Refusal → Board → Told Board
told (Ok _) board = says board
told (Err refusal) board = refused (number_of refusal)

-- what the reader says, and the board that it hands over: zeros after a refusal
abbrev pub read_says : List ℕ → Told Board
read_says file = answer (file_refuses file) (board_in file)

abbrev pub read_keeps : List ℕ → Board
read_keeps file = leave (file_refuses file) zero_board (board_in file)

-- the number for no, or 0, where `number` says which one an error stands for; and of a refusal
abbrev pub refusal_by : {E : Type 0} → (E → ℕ) → Result (Unit {0}) E → ℕ
refusal_by number (Ok _) = 0
refusal_by number (Err error) = number error

abbrev pub refusal_of : Result (Unit {0}) Refusal → ℕ
refusal_of outcome = refusal_by number_of outcome

-- document 01's number, or the number of cells and the number of rows
abbrev pub told_counts : Result Counts Refusal → Told (ℕ × ℕ)
told_counts counts = told_by (λ c. (c.cells, c.rows)) counts

abbrev pub counts_say : List ℕ → Told (ℕ × ℕ)
counts_say file = answer (file_refuses file) (cells_in file, rows_in file)
