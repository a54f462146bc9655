-- `reader::board_in` meets its contract: each part of the record is what the file holds, and a file that is not refused has room for it. Assumes nothing.
use native.Mathlib.Omega.{arith}
use Rattle.reader.specs.FileLaws.{file_sound}
use Rattle.reader.proofs.Steps.{board_is}
use Rattle.reader.proofs.board_in.Goals as goal

pub cells_in-cells-requires : goal.cells_in-cells-requires
cells_in-cells-requires c = (file_sound _ c.requires).long

pub rows_in-rows-requires : goal.rows_in-rows-requires
rows_in-rows-requires c = (file_sound _ c.requires).long

pub domains_in-domains-requires : goal.domains_in-domains-requires
domains_in-domains-requires c =
    let f = file_sound _ c.requires in
    (omega (arith, f.tail.sizes.cells_most), omega (arith, f.tail.inside))

pub returns : goal.returns
returns c =
    board_is _ _ _ _ _ c.cells_in-cells.ensures.0 c.rows_in-rows.ensures.0 c.domains_in-domains.ensures c.lines_in-lines.ensures
