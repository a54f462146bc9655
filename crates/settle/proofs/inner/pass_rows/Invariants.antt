-- `settle::inner::pass_rows` meets its contract: the loop has visited the rows passed, and tallied what they struck. Assumes nothing.
use Rattle.std.proofs.Common.{◌≡◌, ◌+◌, ◌≤◌}
use Rattle.counting.specs.Counting.{size}
use Rattle.settling.specs.Settling.{pass}
use Rattle.settling.specs.Boards.{rows_to}
use Rattle.settle.proofs.inner.pass_rows.Given as goal

abbrev pub invariant-loop-i : goal.invariant-loop-i
invariant-loop-i l =
    (l.domains ≡ pass (rows_to l.board.lines l.i) l.initial.domains)
    × (l.initial.tally.struck ≤ l.tally.struck) × (l.tally.struck + size l.domains ≡ l.initial.tally.struck + size l.initial.domains) × (l.tally.passes ≡ l.initial.tally.passes)
