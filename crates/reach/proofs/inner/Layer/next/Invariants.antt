-- `inner::Layer::next` meets its contract: the set has what the values below v reach. Assumes nothing.
use Rattle.std.proofs.Common.{◌≡◌, ◌&&◌, ℕ, ◌*◌, ◌<◌}
use Rattle.sizes.specs.Sizes.{sums}
use Rattle.counting.specs.Counting.{lists}
use Rattle.words.specs.Words.{has, any}
use Rattle.reach.specs.Reach.{reached}
use Rattle.reach.proofs.inner.Layer.next.Given as goal

abbrev pub invariant-loop-v : goal.invariant-loop-v
invariant-loop-v l = (b : ℕ) → b < sums → has l.set b ≡ any (λ u. lists l.domain u && reached l.self.table.now l.self.i l.self.way (l.weight * u) b) l.v
