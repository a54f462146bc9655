-- The values below this one are said.
use Rattle.std.proofs.Common.{[], ◌++◌}
use Rattle.std.specs.Prelude.{eqb, cond, codes}
use Rattle.std.specs.Io.KnownBytes.{Appends}
use Rattle.lines.specs.Lines.{below_text}
use Rattle.lines.proofs.values.Given as goal

abbrev pub invariant-loop-value : goal.invariant-loop-value
invariant-loop-value g l = Appends (g.W.Write.contents l.fn.out) (g.W.Write.contents l.out) (cond (eqb l.domain 0) (codes " NONE") [] ++ below_text l.domain l.value)
