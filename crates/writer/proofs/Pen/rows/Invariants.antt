-- `Pen::rows` meets its contract: the loop has put the rows that it passed one after the other. Assumes nothing.
use Rattle.writer.specs.Bytes.{joined, line_bytes}
use Rattle.writer.specs.Steps.{Puts}
use Rattle.writer.proofs.Pen.rows.Given as goal

abbrev pub invariant-loop-row : goal.invariant-loop-row
invariant-loop-row l = Puts l.initial.self (joined (line_bytes l.rows) l.row-index) l.self
