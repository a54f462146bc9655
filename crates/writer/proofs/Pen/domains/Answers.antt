-- `Pen::domains` meets its contract: the loop has put the domains that it passed one after the other. Assumes nothing.
use native.Mathlib.Omega.{arith}
use Rattle.writer.proofs.Runs.{put_start, put_next, room_stays}
use Rattle.writer.specs.BytesLaws.{domains_size}
use Rattle.writer.proofs.Pen.domains.Goals as goal

pub loop-domain-init : goal.loop-domain-init
loop-domain-init c = put_start _ _

pub four-requires : goal.four-requires
four-requires c =
    let l = c.loop-domain in
    omega (arith, l.invariant.at, room_stays l.invariant, domains_size c.args.domains.now l.domain-index, c.requires)

pub loop-domain-preserved : goal.loop-domain-preserved
loop-domain-preserved c = put_next _ c.loop-domain.invariant c.four.ensures
