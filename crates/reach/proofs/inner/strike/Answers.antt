-- `inner::strike` meets its contract: its two tables are empty, and after i turns the first i cells are struck. Assumes nothing.
use Rattle.std.proofs.Common.{◌+◌, set, arith}
use Rattle.counting.specs.Steps.{StruckTo}
use Rattle.counting.proofs.StepLaws.{struck_none, struck_fits, struck_all}
use Rattle.words.specs.Bits.{has_zeros}
use Rattle.reach.specs.Reach.{table_words}
use Rattle.reach.specs.Uses.{used_more}
use Rattle.reach.proofs.inner.strike.Goals as goal
use Rattle.reach.proofs.inner.strike.Goals.{After-strike-cell}

pub mark_forward-requires : goal.mark_forward-requires
mark_forward-requires c = (c.requires.most, c.requires.same, has_zeros table_words)

pub mark_backward-requires : goal.mark_backward-requires
mark_backward-requires c = (c.requires, has_zeros table_words)

pub loop-i-init : goal.loop-i-init
loop-i-init c = struck_none _ _ _ _

-- one cell more
cell : (c : After-strike-cell)
    → let a = c.args in
    let l = c.loop-i in
    let r = c.strike-cell.result in
    StruckTo a.weights.now a.domains.now a.low a.high (set l.domains l.i r.domain) (l.gone + r.gone) (l.i + 1)
cell c =
    let a = c.args in
    let l = c.loop-i in
    used_more a.weights.now a.domains.now a.low a.high _ _ _ _ l.i _ _ (record { sound = c.requires; forwards = c.mark_forward.ensures; backwards = c.mark_backward.ensures }) l.invariant (omega arith) c.strike-cell.ensures.left c.strike-cell.ensures.lost

pub overflow_add-gone : goal.overflow_add-gone
overflow_add-gone c = omega (arith, struck_fits _ _ _ _ _ _ _ (cell (goal.at.overflow_add-gone c).After-strike-cell))

pub loop-i-preserved : goal.loop-i-preserved
loop-i-preserved c = cell (goal.at.loop-i-preserved c).After-strike-cell

pub returns-clause-value : goal.returns-clause-value
returns-clause-value c = (struck_all _ _ _ _ _ _ _ c.loop-i.invariant (omega arith)).0

pub returns-clause-domains_after : goal.returns-clause-domains_after
returns-clause-domains_after c = (struck_all _ _ _ _ _ _ _ c.loop-i.invariant (omega arith)).1
