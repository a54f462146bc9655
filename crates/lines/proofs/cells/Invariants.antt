-- The lines of the cells before this one are said.
use Rattle.std.specs.Io.KnownBytes.{Appends}
use Rattle.lines.specs.Lines.{cells_text}
use Rattle.lines.proofs.cells.Given as goal

abbrev pub invariant-loop-cell : goal.invariant-loop-cell
invariant-loop-cell g l = Appends (g.W.Write.contents l.fn.out) (g.W.Write.contents l.out) (cells_text l.cells l.room l.cell)
