-- `reader::row_at` meets its contract: the loop has filled the places of the pairs that it passed. Assumes nothing.
use mathlib.Core.Path.{◌≡◌}
use Rattle.sizes.specs.Sizes.{row_cells}
use Rattle.board.specs.Board.{filled}
use Rattle.reader.specs.File.{name_in, weight_in}
use Rattle.reader.proofs.row_at.Given as goal

abbrev pub invariant-loop-k : goal.invariant-loop-k
invariant-loop-k l = (l.names ≡ filled (name_in l.file l.at) 0 l.k row_cells) × (l.weights ≡ filled (weight_in l.file l.at) 0 l.k row_cells)
