-- `inner::strike` meets its contract: striking one cell more gives what counting means. Assumes nothing.
use Rattle.std.proofs.Common.{◌+◌, ◌<◌, length, set, arith}
use Rattle.counting.specs.Steps.{StruckTo}
use Rattle.counting.proofs.StepLaws.{struck_none, struck_here, struck_more, struck_fits, struck_all}
use Rattle.row.specs.CellLaws.{countable, kept_there, gone_there}
use Rattle.row.proofs.inner.strike.Goals as goal
use Rattle.row.proofs.inner.strike.Goals.{After-strike-cell}

-- one cell more
cell : (c : After-strike-cell)
    → let a = c.args in
    let l = c.loop-i in
    let r = c.strike-cell.result in
    StruckTo a.weights.now a.domains.now a.low a.high (set l.domains l.i r.kept) (l.struck + r.gone) (l.i + 1)
cell c =
    let l = c.loop-i in
    let in_row : l.i < length c.args.domains.now = omega arith in
    let here = struck_here _ _ _ _ _ _ _ l.invariant in
    let kept = kept_there _ _ _ _ _ _ c.requires l.i in_row in
    let gone = gone_there _ _ _ _ _ _ c.requires l.i in_row in
    struck_more _ _ _ _ _ _ _ l.invariant _ _ (omega arith) (cc) (cc)

pub loop-i-init : goal.loop-i-init
loop-i-init c = struck_none _ _ _ _

pub new-requires : goal.new-requires
new-requires c =
    let l = c.loop-i in
    rw (struck_here _ _ _ _ _ _ _ l.invariant) (countable _ _ _ _ _ _ c.requires l.i (omega arith))

pub overflow_add-struck : goal.overflow_add-struck
overflow_add-struck c = omega (arith, struck_fits _ _ _ _ _ _ _ (cell (goal.at.overflow_add-struck c).After-strike-cell))

pub loop-i-preserved : goal.loop-i-preserved
loop-i-preserved c = cell (goal.at.loop-i-preserved c).After-strike-cell

pub returns-clause-value : goal.returns-clause-value
returns-clause-value c = (struck_all _ _ _ _ _ _ _ c.loop-i.invariant (omega arith)).0

pub returns-clause-domains_after : goal.returns-clause-domains_after
returns-clause-domains_after c = (struck_all _ _ _ _ _ _ _ c.loop-i.invariant (omega arith)).1
