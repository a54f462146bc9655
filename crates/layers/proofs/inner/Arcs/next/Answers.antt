-- `Arcs::next` meets its contract: what is stored is the layer that was made. Assumes nothing.
use Rattle.std.proofs.Common.{arith}
use Rattle.std.proofs.lemmas.List.{places}
use Rattle.layers.specs.StepLaws.{step_part}
use Rattle.layers.proofs.inner.Arcs.next.Goals as goal

pub layer-made-requires : goal.layer-made-requires
layer-made-requires c = (grind (arith, places), λ b h. grind (arith, step_part))

pub returns : goal.returns
returns c = record {
  inside = λ k l h. grind (arith, places, step_part);
  early = λ k h. grind (arith, places);
  late = λ k h. grind (arith, places);
}
