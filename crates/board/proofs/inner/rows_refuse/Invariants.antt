-- `board::inner::rows_refuse` meets its contract: the loop has passed rows that are not refused. Assumes nothing.
use mathlib.Core.Path.{◌≡◌}
use Rattle.told.specs.Told.{firsts}
use Rattle.board.specs.Refusals.{line_refuses}
use Rattle.board.proofs.inner.rows_refuse.Given as goal

abbrev pub invariant-loop-row : goal.invariant-loop-row
invariant-loop-row l = firsts (line_refuses l.cells l.rows) l.row-index ≡ 0
