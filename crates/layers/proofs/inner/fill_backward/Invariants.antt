-- `fill_backward` meets its contract: the layers from i to the last are written, and the one below follows from the one at i. Assumes nothing.
use Rattle.std.proofs.Common.{◌+◌, ◌*◌, length}
use Rattle.sizes.specs.Sizes.{sums}
use Rattle.listing.specs.Written.{Written}
use Rattle.counting.specs.Counting.{backward}
use Rattle.layers.specs.Tables.{at_entry}
use Rattle.layers.proofs.inner.fill_backward.Given as goal

abbrev pub invariant-loop-i : goal.invariant-loop-i
invariant-loop-i l = Written (at_entry (backward l.weights l.domains l.low l.high)) l.fn.table l.table (sums * l.i) (sums * length l.domains + sums)
