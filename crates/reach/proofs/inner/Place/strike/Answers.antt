-- `inner::Place::strike` meets its contract: the values below v are struck. Assumes nothing.
use Rattle.std.proofs.Common.{◌≡◌, ◌*◌, true, false, eq-eqb, ne_eqb, arith}
use Rattle.counting.proofs.StepLaws.{value_bit}
use Rattle.reach.specs.Reach.{leads}
use Rattle.reach.specs.Values.{parted_none, parted_unlisted, parted_left, parted_lost, left_fits, lost_fits, left_all, lost_all}
use Rattle.reach.proofs.inner.Place.strike.Goals as goal
use Rattle.reach.proofs.inner.Place.strike.Goals.{then-domain-v-eq1+then-uses, then-domain-v-eq1+else-uses, else-domain-v-eq1}

pub loop-v-init : goal.loop-v-init
loop-v-init c = parted_none _ _

pub overflow_add-cell : goal.overflow_add-cell
overflow_add-cell c =
    let a = c.args in
    let l = c.loop-v in
    let used : leads a.self.forward.now a.self.backward.now a.self.i (a.weight * l.v) ≡ true = cc in
    let next = parted_left _ _ _ _ _ l.invariant (eq-eqb _ _ c.if-domain-v-eq1.true) used in
    omega (arith, value_bit l.v (omega arith), left_fits _ _ _ _ _ next (omega arith))

pub overflow_add-cell-else-uses : goal.overflow_add-cell-else-uses
overflow_add-cell-else-uses c = omega (arith, lost_fits _ _ _ _ _ c.loop-v.invariant)

pub loop-v-preserved : goal.loop-v-preserved
loop-v-preserved c =
    let a = c.args in
    let l = c.loop-v in
    elim c.if-domain-v-eq1.branch [
      | then-domain-v-eq1+then-uses w ↦
          let used : leads a.self.forward.now a.self.backward.now a.self.i (a.weight * l.v) ≡ true = cc in
          rw (w.cell-is, value_bit l.v (omega arith)) (parted_left _ _ _ _ _ l.invariant (eq-eqb _ _ w.if-domain-v-eq1.true) used)
      | then-domain-v-eq1+else-uses w ↦
          let unused : leads a.self.forward.now a.self.backward.now a.self.i (a.weight * l.v) ≡ false = cc in
          rw w.cell-is (parted_lost _ _ _ _ _ l.invariant (eq-eqb _ _ w.if-domain-v-eq1.true) unused)
      | else-domain-v-eq1 w ↦ rw w.cell-is (parted_unlisted _ _ _ _ _ l.invariant (ne_eqb _ _ w.if-domain-v-eq1.false))
    ]

pub returns-clause-left : goal.returns-clause-left
returns-clause-left c =
    let end = c.values_end-v-end in
    let all : c.loop-v.v ≡ end.result = omega arith in
    left_all _ _ _ _ _ (rw all at c.loop-v.invariant) end.ensures.past end.ensures.most

pub returns-clause-lost : goal.returns-clause-lost
returns-clause-lost c =
    let end = c.values_end-v-end in
    let all : c.loop-v.v ≡ end.result = omega arith in
    lost_all _ _ _ _ _ (rw all at c.loop-v.invariant) end.ensures.past end.ensures.most
