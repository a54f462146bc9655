-- `Arcs::layer` meets its contract: before the first value all numbers are 0. Assumes nothing.
use Rattle.std.proofs.Common.{sym, ◌∙◌}
use Rattle.std.proofs.lemmas.List.{get_or-replicate}
use Rattle.sizes.specs.Sizes.{sums}
use Rattle.layers.specs.StepLaws.{brought_none}
use Rattle.layers.proofs.inner.Arcs.layer.Goals as goal

pub loop-v-init : goal.loop-v-init
loop-v-init c = λ b h. get_or-replicate sums b 0 0 h ∙ sym (brought_none _ _ _ _ b)
