-- `settle::inner::visit_row` meets its contract: it gathers, strikes and puts back, as a visit does, at the fronts of the row's arrays. Assumes nothing.
use Rattle.std.proofs.Common.{◌≡◌, ◌+◌, take, arith}
use Rattle.counting.specs.Counting.{size}
use Rattle.settling.specs.Settling.{visit}
use Rattle.settling.specs.Boards.{row_with, row_of}
use Rattle.settling.specs.Visits.{visit_steps}
use Rattle.settling.proofs.BoardLaws.{row_fronts, sound_fits}
use Rattle.settle.proofs.inner.visit_row.Goals as goal
use Rattle.settle.proofs.inner.visit_row.Goals.{After-scatter_row}

visited : (c : After-scatter_row)
    → (c.scatter_row.new.domains ≡ visit (row_of c.args.row.now) c.args.domains.now) × (c.strike-struck.result + size c.scatter_row.new.domains ≡ size c.args.domains.now)
visited c =
    let row = c.args.row.now in
    let fronts = row_fronts row (omega (arith, c.requires.head.most)) (omega (arith, c.requires.head.most)) in
    let steps = visit_steps (row_with (take row.len row.names) (take row.len row.weights) row.low row.high) _ _ _ _ _ (rw fronts (sound_fits _ row c.requires)) c.gather_row.ensures c.strike-struck.ensures.domains_after c.strike-struck.ensures.value c.scatter_row.ensures in
    rw (← fronts) steps

pub returns-clause-domains_after : goal.returns-clause-domains_after
returns-clause-domains_after c = (visited (goal.at.returns-clause-domains_after c).After-scatter_row).0

pub returns-clause-size_kept : goal.returns-clause-size_kept
returns-clause-size_kept c = (visited (goal.at.returns-clause-size_kept c).After-scatter_row).1
