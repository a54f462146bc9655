-- What a file that `read` accepts and its board are known to be, and what a caller knows that takes the answer apart. Assumes nothing.
use Rattle.std.specs.Prelude.{◌≡◌, refl, List, ℕ, ◌≤◌, ◌<◌, length, Result, Ok, Err}
use Rattle.std.proofs.Common.{sym, ◌∙◌}
use Rattle.told.specs.declared.Refusal.{Refusal}
use Rattle.told.specs.Told.{number_of, refusal_in}
use Rattle.told.proofs.ToldLaws.{firsts_zero, refused_back, says_back}
use Rattle.sizes.specs.Sizes.{board_rows, file_size}
use Rattle.board.specs.Refusals.{line_refuses, board_refuses}
use Rattle.board.specs.declared.Board.{Board}
use Rattle.board.specs.Board.{zero_row, blank_row}
use Rattle.board.specs.BoardLaws.{filled_at}
use Rattle.reader.specs.File.{cells_in, rows_in, row_place, line_in, lines_in, board_in}
use Rattle.reader.specs.Reading.{file_refuses, told, read_says, refusal_of}
use Rattle.reader.specs.FileLaws.{file_sound, row_in_fits}

-- an accepted file is at most 1,062 bytes
pub accepted_short : (file : List ℕ) → file_refuses file ≡ 0 → length file ≤ file_size
accepted_short file e = (file_sound file e).short

-- a board that was read is not refused by the writer
pub read_sound : (file : List ℕ) → file_refuses file ≡ 0 → board_refuses (board_in file) ≡ 0
unfolding board_refuses board_in
read_sound file e =
    let f = file_sound file e in
    let line : (i : ℕ) → i < rows_in file → line_refuses (cells_in file) (lines_in file) i ≡ 0 =
    λ i l. rw (filled_at (line_in file) zero_row (rows_in file) board_rows i blank_row l) (sym (row_in_fits file (row_place file i) (f.line i l).fits) ∙ (f.line i l).none) in
    rw f.tail.sizes_none (firsts_zero (line_refuses (cells_in file) (lines_in file)) (rows_in file) line)

-- what a caller of `read` knows that has taken its answer apart
pub said_read : (file : List ℕ) (board : Board) (outcome : Result (Unit {0}) Refusal) {u : Unit {0}} → outcome ≡ Ok u → told outcome board ≡ read_says file
    → (file_refuses file ≡ 0) × (board ≡ board_in file)
said_read file board outcome r e = says_back (file_refuses file) (board_in file) board (rw r at e)

pub said_refused : (file : List ℕ) (board : Board) (outcome : Result (Unit {0}) Refusal) (refusal : Refusal) → outcome ≡ Err refusal → told outcome board ≡ read_says file
    → (number_of refusal ≡ file_refuses file) × (number_of refusal ≡ 0 → ⊥)
said_refused file board outcome refusal r e = refused_back (file_refuses file) (number_of refusal) (board_in file) (rw r at e)

-- the number of what was refused is that of a test for refusals
pub refusal_of_test : (outcome : Result (Unit {0}) Refusal) → refusal_of outcome ≡ refusal_in outcome
refusal_of_test (Ok u) = refl
refusal_of_test (Err refusal) = refl
