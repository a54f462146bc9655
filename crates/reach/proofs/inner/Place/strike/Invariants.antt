-- `inner::Place::strike` meets its contract: the values below v are struck. Assumes nothing.
use Rattle.reach.specs.Reach.{uses, Parted}
use Rattle.reach.proofs.inner.Place.strike.Given as goal

abbrev pub invariant-loop-v : goal.invariant-loop-v
invariant-loop-v l = Parted l.domain (uses l.self.forward.now l.self.backward.now l.self.i l.weight) l.cell.domain l.cell.gone l.v
