-- `board::inner::repeat_refuses` meets its contract: the loop has passed pairs that name other cells. Assumes nothing.
use mathlib.Core.Path.{◌≡◌}
use Rattle.told.specs.Told.{firsts}
use Rattle.board.specs.Refusals.{same_name}
use Rattle.board.proofs.inner.repeat_refuses.Given as goal

abbrev pub invariant-loop-j : goal.invariant-loop-j
invariant-loop-j l = firsts (same_name l.names l.k) l.j ≡ 0
