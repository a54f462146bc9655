-- `Pen::rows` meets its contract: the loop has put the rows that it passed one after the other. Assumes nothing.
use Prim.Native.Nat.{◌+◌}
use native.Mathlib.Omega.{arith}
use lib.ListN.{length}
use Rattle.writer.proofs.Runs.{put_start, put_next, room_stays}
use Rattle.writer.specs.Bytes.{line_bytes}
use Rattle.writer.specs.BytesLaws.{size_rises, lines_next}
use Rattle.writer.proofs.Pen.rows.Goals as goal

pub loop-row-init : goal.loop-row-init
loop-row-init c = put_start _ _

pub row-requires : goal.row-requires
row-requires c =
    let l = c.loop-row in
    let rows = c.args.rows.now in
    let next = lines_next rows l.row-index in
    let rises = size_rises (line_bytes rows) (l.row-index + 1) (length rows) (omega arith) in
    (c.requires.0 l.row-index (omega arith), omega (arith, l.invariant.at, room_stays l.invariant, next, rises, c.requires.1))

pub loop-row-preserved : goal.loop-row-preserved
loop-row-preserved c = put_next _ c.loop-row.invariant c.row.ensures
