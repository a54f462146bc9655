-- `settle::inner::scatter_row` meets its contract: what the loop has still to put makes what is to be put in all. Assumes nothing.
use Rattle.std.proofs.Common.{◌≡◌, drop}
use Rattle.settling.specs.Settling.{scatter}
use Rattle.settle.proofs.inner.scatter_row.Given as goal

abbrev pub invariant-loop-p : goal.invariant-loop-p
invariant-loop-p l =
    scatter l.names l.part l.initial.domains ≡ scatter (drop l.p l.names) (drop l.p l.part) l.domains
