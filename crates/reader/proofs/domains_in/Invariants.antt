-- `reader::domains_in` meets its contract: the loop has filled the places of the cells that it passed. Assumes nothing.
use mathlib.Core.Path.{◌≡◌}
use Rattle.sizes.specs.Sizes.{board_cells}
use Rattle.board.specs.Board.{filled}
use Rattle.reader.specs.File.{domain_in}
use Rattle.reader.proofs.domains_in.Given as goal

abbrev pub invariant-loop-i : goal.invariant-loop-i
invariant-loop-i l = l.domains ≡ filled (domain_in l.file) 0 l.i board_cells
