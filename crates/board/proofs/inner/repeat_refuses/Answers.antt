-- `board::inner::repeat_refuses` meets its contract: a pair that names the cell is the first that does. Assumes nothing.
use native.Mathlib.Omega.{arith}
use borrow.Author.Tests.{eq-eqb}
use Rattle.told.proofs.ToldLaws.{firsts_stop}
use Rattle.board.specs.Refusals.{repeat_refuses}
use Rattle.board.proofs.inner.repeat_refuses.Goals as goal

pub returns-then-names-j : goal.returns-then-names-j
unfolding repeat_refuses
returns-then-names-j c = firsts_stop _ _ _ _ (omega arith) c.loop-j.invariant (rw (eq-eqb _ _ c.if-names-j.true)) (λ z. omega arith)
