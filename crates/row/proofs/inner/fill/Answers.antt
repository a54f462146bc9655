-- `inner::fill` meets its contract: the total is the backward number at (0, 0), the table's first entry. Assumes nothing.
use Rattle.row.specs.CellLaws.{just_filled, total_there}
use Rattle.row.proofs.inner.fill.Goals as goal

pub returns-clause-value : goal.returns-clause-value
returns-clause-value c =
    let k = c.fill.ensures in
    total_there _ _ _ _ _ _ (just_filled _ _ _ _ _ _ _ _ c.requires.sound k.forward_after k.backward_after)
