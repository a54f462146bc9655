-- `Pen::row` meets its contract: the loop has put the pairs that it passed one after the other. Assumes nothing.
use Rattle.writer.specs.Bytes.{joined, pair_bytes}
use Rattle.writer.specs.Steps.{Puts}
use Rattle.writer.proofs.Pen.row.Given as goal

abbrev pub invariant-loop-k : goal.invariant-loop-k
invariant-loop-k l = Puts l.initial.self (joined (pair_bytes l.row.names l.row.weights) l.k) l.self
