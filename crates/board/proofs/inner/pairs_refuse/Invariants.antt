-- `board::inner::pairs_refuse` meets its contract: the loop has passed pairs that are not refused. Assumes nothing.
use mathlib.Core.Path.{◌≡◌}
use Rattle.told.specs.Told.{firsts}
use Rattle.board.specs.Refusals.{pair_refuses}
use Rattle.board.proofs.inner.pairs_refuse.Given as goal

abbrev pub invariant-loop-k : goal.invariant-loop-k
invariant-loop-k l = firsts (pair_refuses l.cells l.names) l.k ≡ 0
