-- `ready::ReadyRow::with_places` meets its contract: the loop has gone through the places passed.
use mathlib.Core.List.{flat_map}
use Rattle.listing.specs.Listing.{below}
use Rattle.choosing.specs.Choosing.{of_place}
use Rattle.choose.specs.Rows.{line_of}
use Rattle.choose.specs.Steps.{After}
use Rattle.choose.proofs.ready.ReadyRow.with_places.Given as goal

abbrev pub invariant-loop-p : goal.invariant-loop-p
invariant-loop-p l =
    let s = l.self in
    After l.initial.best (flat_map (of_place s.row (line_of s) s.domains.now) (below l.p)) l.best
