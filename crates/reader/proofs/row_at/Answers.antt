-- `reader::row_at` meets its contract: the loop has filled the places of the pairs that it passed. Assumes nothing.
use mathlib.Core.Path.{refl}
use native.Mathlib.Omega.{arith}
use Rattle.board.specs.BoardLaws.{filled_start, filled_next}
use Rattle.reader.proofs.Steps.{row_is}
use Rattle.reader.proofs.row_at.Goals as goal

pub loop-k-init : goal.loop-k-init
loop-k-init c = (filled_start _ _ _, filled_start _ _ _)

pub loop-k-preserved : goal.loop-k-preserved
loop-k-preserved c =
    let l = c.loop-k.invariant in
    (filled_next _ _ _ _ _ _ l.0 c.byte_at.ensures.0 (omega arith), filled_next _ _ _ _ _ _ l.1 refl (omega arith))

pub returns : goal.returns
returns c =
    let l = c.loop-k.invariant in
    row_is _ _ _ _ _ _ _ _ c.byte_at-len.ensures.0 c.two_at-low.ensures.0 c.two_at-high.ensures.0 l.0 l.1 (omega arith) (omega arith)
