-- `settle::inner::gather_row` meets its contract: the loop has copied the domains of the cells passed. Assumes nothing.
use Rattle.std.proofs.Common.{◌≡◌, ℕ, ◌<◌, get_or}
use Rattle.settle.proofs.inner.gather_row.Given as goal

abbrev pub invariant-loop-p : goal.invariant-loop-p
invariant-loop-p l = (k : ℕ) → k < l.p → get_or l.part k 0 ≡ get_or l.domains (get_or l.names k 0) 0
