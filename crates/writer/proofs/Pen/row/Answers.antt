-- `Pen::row` meets its contract: its head, and then the loop has put the pairs that it passed one after the other. Assumes nothing.
use mathlib.Core.Path.{◌≡◌}
use native.Mathlib.Omega.{arith}
use Rattle.writer.proofs.Runs.{then, put_start, put_next, room_stays}
use Rattle.writer.specs.Bytes.{row_bytes}
use Rattle.writer.specs.BytesLaws.{pairs_size}
use Rattle.writer.proofs.Pen.row.Goals as goal

pub loop-k-init : goal.loop-k-init
loop-k-init c = put_start _ _

pub put-requires : goal.put-requires
put-requires c =
    let l = c.loop-k in
    let row = c.args.row.now in
    let head = then (then c.byte.ensures c.two.ensures) c.two-2.ensures in
    omega (arith, l.invariant.at, room_stays l.invariant, head.at, room_stays head, pairs_size row.names row.weights l.k, c.requires)

pub loop-k-preserved : goal.loop-k-preserved
loop-k-preserved c = put_next _ c.loop-k.invariant c.put.ensures

pub returns : goal.returns
unfolding row_bytes
returns c =
    let all : c.loop-k.k ≡ c.args.row.now.len = omega arith in
    then (then (then c.byte.ensures c.two.ensures) c.two-2.ensures) (rw all at c.loop-k.invariant)
