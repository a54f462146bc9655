-- The lines of the rows before this one are said.
use Rattle.std.specs.Io.KnownBytes.{Appends}
use Rattle.report.specs.Reporting.{lines_text}
use Rattle.report.proofs.totals.Given as goal

abbrev pub invariant-loop-line : goal.invariant-loop-line
invariant-loop-line g l = Appends (g.W.Write.contents l.fn.out) (g.W.Write.contents l.out) (lines_text l.board l.room l.line)
