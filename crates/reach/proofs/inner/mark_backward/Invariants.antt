-- `inner::mark_backward` meets its contract: with i cells left the layers from i on are marked. Assumes nothing.
use Rattle.std.proofs.Common.{◌+◌, length}
use Rattle.counting.specs.Counting.{backward}
use Rattle.reach.specs.Reach.{Marked}
use Rattle.reach.proofs.inner.mark_backward.Given as goal

abbrev pub invariant-loop-i : goal.invariant-loop-i
invariant-loop-i l = Marked (backward l.weights l.domains l.low l.high) l.t l.i (length l.domains + 1)
