-- `fill_backward` meets its contract: the layer written next has the backward numbers, since the one above it has them. Assumes nothing.
use Rattle.std.proofs.Common.{◌≡◌, ℕ, suc, ◌+◌, ◌-◌, ◌*◌, ◌<◌, get_or, refl, sym, ◌∙◌, arith}
use Rattle.sizes.specs.Sizes.{sums}
use Rattle.listing.specs.Writing.{written_down}
use Rattle.counting.specs.Counting.{backward}
use Rattle.counting.proofs.Tables.{backward_end}
use Rattle.layers.specs.Steps.{step}
use Rattle.layers.specs.StepLaws.{backward_step}
use Rattle.layers.specs.TableLaws.{backward_fits, written_layer, layer_at_lem, backward_onto}
use Rattle.layers.proofs.inner.fill_backward.Goals as goal
use Rattle.layers.proofs.inner.fill_backward.Goals.{In-loop-i}

-- the step to the layer below the one at i
steps : (c : In-loop-i)
    → (let a = c.args in let i = c.loop-i.i - 1 in (b : ℕ) → b < sums
    → step c.loop-i.table (sums * i + sums) 0 (get_or a.weights.now i 0) (get_or a.domains.now i 0) b ≡ backward a.weights.now a.domains.now a.low a.high i b)
steps c b h =
    let a = c.args in
    let i = c.loop-i.i - 1 in
    let some = c.loop-i-test.true in
    let at : sums * suc i ≡ sums * i + sums = omega arith in
    let here = layer_at_lem (backward a.weights.now a.domains.now a.low a.high) (suc i) _ _ _ _ c.loop-i.invariant (omega arith) (omega arith) in
    backward_step c.loop-i.table a.weights.now a.domains.now i (omega arith) c.requires.2 a.low a.high (sums * i + sums) b c.requires.0 (rw at at here)

pub loop-i-init : goal.loop-i-init
loop-i-init c =
    let a = c.args in
    written_layer (backward a.weights.now a.domains.now a.low a.high) _ _ refl (λ b h. sym (backward_end a.weights.now a.domains.now a.low a.high b)) c.start.ensures

pub next-requires : goal.next-requires
next-requires c =
    let a = c.args in
    let kept = c.start.auto.table in (
      omega arith,
      omega arith,
      λ b h. rw (steps (goal.at.next-requires c).In-loop-i b h) (backward_fits a.weights.now a.domains.now c.requires.1 a.low a.high (c.loop-i.i - 1) b),
    )

pub loop-i-preserved : goal.loop-i-preserved
loop-i-preserved c =
    let a = c.args in
    let some = c.loop-i-test.true in
    let below : sums * (c.loop-i.i - 1) + sums ≡ sums * c.loop-i.i = omega arith in
    let new = written_layer (backward a.weights.now a.domains.now a.low a.high) (c.loop-i.i - 1) _ refl (steps (goal.at.loop-i-preserved c).In-loop-i) c.next.ensures in
    written_down _ _ _ _ _ _ _ (omega arith) (omega arith) c.loop-i.invariant (rw below at new)

pub returns : goal.returns
returns c =
    let l = c.loop-i in
    let all : l.i ≡ 0 = omega arith in
    backward_onto _ _ _ _ (omega arith) (l.auto.table ∙ c.start.auto.table) _ _ (rw all at l.invariant)
