-- `inner::ordered` ends: the denominators' sum falls.
use Rattle.std.proofs.Common.{◌+◌}
use Rattle.fraction.proofs.inner.+ordered.Given as goal

abbrev pub decreases-ordered : goal.decreases-ordered
decreases-ordered l = l.t1 + l.t2
