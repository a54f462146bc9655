-- `inner::strike` meets its contract: after i turns the first i cells are struck. Assumes nothing.
use Rattle.counting.specs.Steps.{StruckTo}
use Rattle.reach.proofs.inner.strike.Given as goal

abbrev pub invariant-loop-i : goal.invariant-loop-i
invariant-loop-i l = StruckTo l.weights l.initial.domains l.low l.high l.domains l.gone l.i
