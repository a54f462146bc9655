-- `settle::inner::settle_rows` meets its contract: what is left to settle leaves what settling leaves in all, with the passes and the values tallied.
-- The measure is how many values are listed: a pass that is not the last strikes one. Assumes nothing.
use Rattle.counting.specs.Counting.{size}
use Rattle.settling.specs.Boards.{rows_of}
use Rattle.settle.specs.Settle.{Underway}
use Rattle.settle.proofs.inner.settle_rows.Given as goal

abbrev pub invariant-loop-tally : goal.invariant-loop-tally
invariant-loop-tally l = Underway (rows_of l.board) l.initial.domains l.domains l.tally

abbrev pub decreases-loop-tally : goal.decreases-loop-tally
decreases-loop-tally l = size l.domains
