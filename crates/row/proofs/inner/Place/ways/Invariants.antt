-- `Place::ways` meets its contract: after b turns it is the sum over the sums below b. Assumes nothing.
use Rattle.std.proofs.Common.{◌≡◌, ◌*◌}
use Rattle.row.specs.Cells.{ways_below}
use Rattle.row.proofs.inner.Place.ways.Given as goal

abbrev pub invariant-loop-b : goal.invariant-loop-b
invariant-loop-b l = l.sum ≡ ways_below l.self.before.now l.self.after.now (l.self.weight * l.v) l.b
