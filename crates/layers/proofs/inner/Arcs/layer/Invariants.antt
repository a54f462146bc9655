-- `Arcs::layer` meets its contract: after v turns each number is what the values below v bring. Assumes nothing.
use Rattle.std.proofs.Common.{◌≡◌, ℕ, ◌<◌, get_or}
use Rattle.sizes.specs.Sizes.{sums}
use Rattle.layers.specs.StepLaws.{brought}
use Rattle.layers.proofs.inner.Arcs.layer.Given as goal

abbrev pub invariant-loop-v : goal.invariant-loop-v
invariant-loop-v l = (b : ℕ) → b < sums → get_or l.made b 0 ≡ brought l.from l.self.rise l.self.fall l.self.domain b l.v
