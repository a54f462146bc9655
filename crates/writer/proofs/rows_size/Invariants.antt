-- `writer::rows_size` meets its contract: the loop has added up the rows that it passed. Assumes nothing.
use mathlib.Core.Path.{◌≡◌}
use lib.ListN.{length}
use Rattle.writer.specs.Bytes.{joined, line_bytes}
use Rattle.writer.proofs.rows_size.Given as goal

abbrev pub invariant-loop-row : goal.invariant-loop-row
invariant-loop-row l = l.size ≡ length (joined (line_bytes l.rows) l.row-index)
