-- `start` meets its contract: the layer is written place by place. Assumes nothing.
use Rattle.std.proofs.Common.{◌+◌, ◌-◌}
use Rattle.told.specs.Told.{when}
use Rattle.listing.specs.Written.{Written}
use Rattle.counting.specs.Counting.{within}
use Rattle.layers.proofs.inner.start.Given as goal

abbrev pub invariant-loop-b : goal.invariant-loop-b
invariant-loop-b l = Written (λ k. when (within l.low l.high (k - l.at)) 1) l.initial.table l.table l.at (l.at + l.b)
