-- `fill_forward` meets its contract: after i turns the layers from 0 to i are written, and the next follows from the one at i. Assumes nothing.
use Rattle.std.proofs.Common.{◌+◌, ◌*◌}
use Rattle.sizes.specs.Sizes.{sums}
use Rattle.listing.specs.Written.{Written}
use Rattle.counting.specs.Counting.{forward}
use Rattle.layers.specs.Tables.{at_entry}
use Rattle.layers.proofs.inner.fill_forward.Given as goal

abbrev pub invariant-loop-i : goal.invariant-loop-i
invariant-loop-i l = Written (at_entry (forward l.weights l.domains)) l.fn.table l.table 0 (sums * l.i + sums)
