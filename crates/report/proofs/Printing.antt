-- The lines of a board's rows are said one by one. Assumes nothing.
use Rattle.std.specs.Prelude.{List, ℕ, Option}
use Rattle.std.specs.Io.KnownBytes.{Appends}
use Rattle.std.proofs.KnownBytes.{Appends-nil}
use Rattle.board.specs.declared.Board.{Board}
use Rattle.report.specs.Reporting.{lines_text}

pub said_no_line : (a : Option (List ℕ)) (board : Board) (room : List ℕ) → Appends a a (lines_text board room 0)
unfolding lines_text
said_no_line a board room = Appends-nil a
