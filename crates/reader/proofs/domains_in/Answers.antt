-- `reader::domains_in` meets its contract: the loop has filled the places of the cells that it passed. Assumes nothing.
use native.Mathlib.Omega.{arith}
use Rattle.board.specs.BoardLaws.{filled_start, filled_next}
use Rattle.reader.proofs.domains_in.Goals as goal

pub loop-i-init : goal.loop-i-init
loop-i-init c = filled_start _ _ _

pub loop-i-preserved : goal.loop-i-preserved
loop-i-preserved c = filled_next _ _ _ _ _ _ c.loop-i.invariant c.four_at.ensures (omega arith)
