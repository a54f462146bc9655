-- `inner::mark_forward` meets its contract: after i turns the layers from 0 to i are marked. Assumes nothing.
use Rattle.std.proofs.Common.{◌+◌}
use Rattle.counting.specs.Counting.{forward}
use Rattle.reach.specs.Reach.{Marked}
use Rattle.reach.proofs.inner.mark_forward.Given as goal

abbrev pub invariant-loop-i : goal.invariant-loop-i
invariant-loop-i l = Marked (forward l.weights l.domains) l.t 0 (l.i + 1)
