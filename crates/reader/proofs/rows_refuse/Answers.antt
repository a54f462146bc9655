-- `reader::rows_refuse` meets its contract: the loop stands at the next row, and has passed rows that are not refused. Assumes nothing.
use mathlib.Core.Path.{sym, ap, ◌∙◌}
use native.Mathlib.Omega.{arith}
use Rattle.told.proofs.ToldLaws.{firsts_start, firsts_ok}
use Rattle.reader.specs.Reading.{row_in_refuses, rest_refuses}
use Rattle.reader.specs.FileLaws.{row_in_sound}
use Rattle.reader.proofs.Steps.{place_start, place_next, rows_end}
use Rattle.reader.proofs.rows_refuse.Goals as goal

pub loop-i-init : goal.loop-i-init
loop-i-init c = (place_start _ _ c.cells_in-at.ensures.0, omega arith, firsts_start _)

pub loop-i-preserved : goal.loop-i-preserved
loop-i-preserved c =
    let l = c.loop-i.invariant in
    let none = c.in_ok-row_refuses.ensures in
    let row = row_in_sound _ _ (sym none) in (
      place_next _ _ _ _ l.0 c.row_end-at.ensures,
      omega (arith, row.fits),
      firsts_ok _ _ l.2 (none ∙ ap (row_in_refuses _) l.0),
    )

pub returns : goal.returns
returns c =
    let l = c.loop-i.invariant in
    rows_end _ _ _ _ l.0 c.rows_in-rows.ensures.0 l.2 _ (omega arith) (omega arith) (c.rest_refuses.ensures ∙ ap (rest_refuses c.loop-i.at) c.trailer_place-end.ensures)
