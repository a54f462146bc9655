-- `inner::with_rows` meets its contract: the loop has gone through the rows passed, and the tables are kept past 5,632 entries.
use mathlib.Core.List.{flat_map}
use Rattle.listing.specs.Listing.{below}
use Rattle.board.specs.Board.{row_at}
use Rattle.settling.specs.Boards.{row_of}
use Rattle.choosing.specs.Choosing.{of_row}
use Rattle.choose.specs.Steps.{Kept, After}
use Rattle.choose.proofs.inner.with_rows.Given as goal

abbrev pub invariant-loop-i : goal.invariant-loop-i
invariant-loop-i l =
    After l.initial.best (flat_map (λ k. of_row k (row_of (row_at l.board.lines k)) l.domains) (below l.i)) l.best
    × Kept l.initial.tables l.tables
