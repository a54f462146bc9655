-- No more are found than were looked at.
use Rattle.std.proofs.Common.{◌≤◌}
use Rattle.run_search.proofs.count.Given as goal

abbrev pub invariant-loop-i : goal.invariant-loop-i
invariant-loop-i l = l.found ≤ l.i
