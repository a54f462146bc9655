-- `inner::choose` meets its contract: both tables are cleared, which past 5,632 entries were kept. Assumes nothing.
use Rattle.choose.specs.AdviceLaws.{cleared_kept}
use Rattle.choose.proofs.inner.choose.Goals as goal

pub returns-clause-forward_after : goal.returns-clause-forward_after
returns-clause-forward_after c =
    let kept = c.chosen-advice.ensures.kept in
    (cleared_kept _ _ _ kept.forward c.clear.ensures.cleared.0, cleared_kept _ _ _ kept.backward c.clear.ensures.cleared.1)
