-- `reader::lines_in` meets its contract: the loop stands at the next row, and has filled the places of those that it passed. Assumes nothing.
use mathlib.Core.Path.{◌≡◌}
use Rattle.sizes.specs.Sizes.{board_rows}
use Rattle.board.specs.Board.{zero_row, filled}
use Rattle.reader.specs.File.{row_place, line_in}
use Rattle.reader.proofs.lines_in.Given as goal

abbrev pub invariant-loop-i : goal.invariant-loop-i
invariant-loop-i l = (l.at ≡ row_place l.file l.i) × (l.lines ≡ filled (line_in l.file) zero_row l.i board_rows)
