use Rattle.std.proofs.Common.{add-one}
use Rattle.std.proofs.KnownBytes.{Appends-trans}
use Rattle.report.specs.Reporting.{lines_text}
use Rattle.report.proofs.Printing.{said_no_line}
use Rattle.report.proofs.totals.Goals as goal

pub loop-line-init : goal.loop-line-init
loop-line-init g c = said_no_line _ _ _

pub loop-line-preserved : goal.loop-line-preserved
unfolding lines_text
loop-line-preserved g c = rw add-one (Appends-trans _ _ _ _ _ c.loop-line.invariant c.in_ok-line_total.ensures)
