-- `ready::ReadyRow::with_place` meets its contract: the loop has gone through the values passed.
use mathlib.Core.List.{flat_map}
use Rattle.listing.specs.Listing.{below}
use Rattle.choosing.proofs.CandidateLaws.{of_value}
use Rattle.choose.specs.Rows.{line_of}
use Rattle.choose.specs.Steps.{After}
use Rattle.choose.proofs.ready.ReadyRow.with_place.Given as goal

abbrev pub invariant-loop-v : goal.invariant-loop-v
invariant-loop-v l =
    let s = l.self in
    After l.initial.best (flat_map (of_value s.row (line_of s) s.domains.now l.p) (below l.v)) l.best
