-- `fill_forward` meets its contract: the layer written next has the forward numbers, since the one at i has them. Assumes nothing.
use Rattle.std.proofs.Common.{◌≡◌, ℕ, suc, ◌+◌, ◌*◌, ◌<◌, length, get_or, refl, sym, ◌∙◌, arith}
use Rattle.sizes.specs.Sizes.{sums}
use Rattle.listing.specs.Writing.{written_up}
use Rattle.counting.specs.Counting.{forward}
use Rattle.counting.proofs.Tables.{forward_zero}
use Rattle.layers.specs.Steps.{step}
use Rattle.layers.specs.StepLaws.{nothing, forward_step}
use Rattle.layers.specs.TableLaws.{forward_fits, written_layer, layer_at_lem, forward_onto}
use Rattle.layers.proofs.inner.fill_forward.Goals as goal
use Rattle.layers.proofs.inner.fill_forward.Goals.{In-loop-i}

-- the step from the layer at i
steps : (c : In-loop-i)
    → (let a = c.args in let l = c.loop-i in (b : ℕ) → b < sums
    → step l.table (sums * l.i) (get_or a.weights.now l.i 0) 0 (get_or a.domains.now l.i 0) b ≡ forward a.weights.now a.domains.now (suc l.i) b)
steps c b h =
    let l = c.loop-i in
    let here = layer_at_lem (forward c.args.weights.now c.args.domains.now) l.i _ _ _ _ l.invariant (omega arith) (omega arith) in
    forward_step l.table c.args.weights.now c.args.domains.now l.i c.loop-i-test.true c.requires.1 (sums * l.i) b h here

pub loop-i-init : goal.loop-i-init
loop-i-init c =
    let a = c.args in
    written_layer (forward a.weights.now a.domains.now) 0 _ refl (λ b h. nothing b ∙ sym (forward_zero a.weights.now a.domains.now b)) c.start.ensures

pub next-requires : goal.next-requires
next-requires c =
    let a = c.args in
    let kept = c.start.auto.table in (
      omega arith,
      omega arith,
      λ b h. rw (steps (goal.at.next-requires c).In-loop-i b h) (forward_fits a.weights.now a.domains.now c.requires.0 (suc c.loop-i.i) b c.loop-i-test.true),
    )

pub loop-i-preserved : goal.loop-i-preserved
loop-i-preserved c =
    let i = c.loop-i.i in
    let above : sums * i + sums + sums ≡ sums * (i + 1) + sums = omega arith in
    let new = written_layer (forward c.args.weights.now c.args.domains.now) (suc i) _ (omega arith) (steps (goal.at.loop-i-preserved c).In-loop-i) c.next.ensures in
    rw above at (written_up _ _ _ _ _ _ _ (omega arith) (omega arith) c.loop-i.invariant new)

pub returns : goal.returns
returns c =
    let l = c.loop-i in
    let all : l.i ≡ length c.args.domains.now = omega arith in
    forward_onto _ _ _ _ (omega arith) (l.auto.table ∙ c.start.auto.table) (rw all at l.invariant)
