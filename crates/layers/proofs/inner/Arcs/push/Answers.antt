-- `Arcs::push` meets its contract: the number added at b is the one that moves there. Assumes nothing.
use Rattle.std.proofs.Common.{◌*◌, arith}
use Rattle.std.proofs.lemmas.Grind.{common_steps}
use Rattle.layers.specs.StepLaws.{moved_in}
use Rattle.layers.proofs.inner.Arcs.push.Goals as goal

pub loop-b-preserved : goal.loop-b-preserved
loop-b-preserved c =
    let a = c.args in
    let here = moved_in a.from.now 0 (a.self.rise * a.v) (a.self.fall * a.v) c.loop-b.b (grind arith) (grind arith) in
    (λ j h. grind (arith, common_steps), λ j h. grind (arith, common_steps))
