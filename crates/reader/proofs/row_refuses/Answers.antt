-- `reader::row_refuses` meets its contract: a head that is not refused says how long the row is, and the row that fits is read. Assumes nothing.
use mathlib.Core.Path.{◌≡◌, sym}
use Prim.Native.Nat.{◌+◌, ◌≤◌}
use native.Mathlib.Omega.{arith}
use borrow.Author.Rules.{rules}
use lib.ListN.{length}
use borrow.Author.Tests.{le-ltb}
use Rattle.sizes.specs.Sizes.{row_cells}
use Rattle.told.proofs.ToldLaws.{past, first_ok}
use Rattle.board.specs.RefusalLaws.{head_sound}
use Rattle.reader.specs.File.{trailer, row_end}
use Rattle.reader.specs.Reading.{row_in_refuses}
use Rattle.reader.proofs.Steps.{pairs_read}
use Rattle.reader.proofs.row_refuses.Goals as goal
use Rattle.reader.proofs.row_refuses.Goals.{In_ok-head_refuses}

-- the head tells the length
short : (c : In_ok-head_refuses) → c.byte_at-len.result ≤ row_cells
short c = (head_sound _ _ _ (sym c.in_ok-head_refuses.ensures)).most

pub row_at-row-requires : goal.row_at-row-requires
row_at-row-requires c =
    (omega (arith, c.if-end-row_end.false), omega (arith, short (goal.at.row_at-row-requires c).In_ok-head_refuses))

pub shared_ref_as_front-names : goal.shared_ref_as_front-names
shared_ref_as_front-names c = short (goal.at.shared_ref_as_front-names c).In_ok-head_refuses

pub returns : goal.returns
unfolding row_in_refuses
returns c =
    let a = c.args in
    let fits : row_end a.file.now a.at ≤ trailer a.file.now = omega (arith, c.if-end-row_end.false) in
    let head : a.at + 5 ≤ trailer a.file.now = omega (arith, c.if-end-at.false) in
    let ten : length c.row_at-row.result.names ≡ row_cells = search rules in
    past _ _ _ _ (le-ltb _ _ head)
    (first_ok _ _ _ (rw (c.byte_at-len.ensures.0, c.two_at.ensures.0, c.two_at-2.ensures.0) at c.in_ok-head_refuses.ensures)
    (past _ _ _ _ (le-ltb _ _ fits)
    (pairs_read _ _ _ _ _ _ c.row_at-row.ensures c.cells_in.ensures.0 c.byte_at-len.ensures.0 (omega (arith, short (goal.at.returns c).In_ok-head_refuses)) c.pairs_refuse.ensures)))
