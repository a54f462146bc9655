-- `Place::strike` meets its contract: after v turns both are the sums over the values below v. Assumes nothing.
use Rattle.std.proofs.Common.{◌≡◌}
use Rattle.row.specs.Cells.{kept_below, gone_below}
use Rattle.row.proofs.inner.Place.strike.Given as goal

abbrev pub invariant-loop-v : goal.invariant-loop-v
invariant-loop-v l =
    (l.kept ≡ kept_below l.self.before.now l.self.after.now l.self.weight l.self.domain l.v)
    × (l.gone ≡ gone_below l.self.before.now l.self.after.now l.self.weight l.self.domain l.v)
