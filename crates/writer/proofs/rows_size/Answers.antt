-- `writer::rows_size` meets its contract: the loop has added up the rows that it passed, which take few bytes. Assumes nothing.
use native.Mathlib.Omega.{arith}
use Rattle.writer.specs.Bytes.{line_bytes}
use Rattle.writer.specs.BytesLaws.{size_start, lines_next, lines_short}
use Rattle.writer.proofs.rows_size.Goals as goal

pub loop-row-init : goal.loop-row-init
loop-row-init c = let s = size_start (line_bytes c.args.rows.now) in omega arith

pub overflow_add-size-in-loop-row : goal.overflow_add-size-in-loop-row
overflow_add-size-in-loop-row c =
    let l = c.loop-row in
    let few = lines_short c.args.rows.now l.row-index (λ j k. c.requires.1 j (omega arith)) in
    let short = c.requires.1 l.row-index (omega arith) in
    record { fits = omega (arith, l.invariant, few, short, c.requires.0) }

pub loop-row-preserved : goal.loop-row-preserved
loop-row-preserved c = let s = lines_next c.args.rows.now c.loop-row.row-index in omega (arith, c.loop-row.invariant)
