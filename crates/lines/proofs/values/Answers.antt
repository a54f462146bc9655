-- The values below this one are said, and one more is. Assumes nothing.
use Rattle.std.proofs.Common.{arith, ap}
use Rattle.lines.proofs.Saying.{said_none, said_nothing, said_value}
use Rattle.lines.proofs.values.Goals as goal
use Rattle.lines.proofs.values.Goals.{then-domain-eq0+in_ok-write, else-domain-eq0}

pub loop-value-init : goal.loop-value-init
loop-value-init g c =
    elim c.if-domain-eq0.branch [
      | then-domain-eq0+in_ok-write w ↦
          rw w.out-is (said_none (g.W.Write.contents c.args.out.now) (g.W.Write.contents w.write.new.self) c.args.domain w.if-domain-eq0.true w.in_ok-write.ensures.bytes)
      | else-domain-eq0 w ↦ said_nothing (g.W.Write.contents c.args.out.now) (g.W.Write.contents c.if-domain-eq0.out) c.args.domain w.if-domain-eq0.false (ap g.W.Write.contents w.out-is)
    ]

pub loop-value-preserved : goal.loop-value-preserved
loop-value-preserved g c = said_value _ _ _ _ _ _ c.loop-value.invariant (c.in_ok-if_listed.ensures (omega arith))
