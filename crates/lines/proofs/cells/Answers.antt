use Rattle.std.proofs.Common.{add-one}
use Rattle.std.proofs.KnownBytes.{Appends-trans}
use Rattle.lines.specs.Lines.{cells_text}
use Rattle.lines.proofs.Saying.{said_no_cell}
use Rattle.lines.proofs.cells.Goals as goal

pub loop-cell-init : goal.loop-cell-init
loop-cell-init g c = said_no_cell _ _ _

pub loop-cell-preserved : goal.loop-cell-preserved
unfolding cells_text
loop-cell-preserved g c = rw add-one (Appends-trans _ _ _ _ _ c.loop-cell.invariant c.in_ok-cell_line.ensures)
