-- `board::inner::row_refuses` meets its contract: a head that is not refused says how long the row is. Assumes nothing.
use mathlib.Core.Path.{◌≡◌, sym, ◌∙◌}
use Prim.Native.Nat.{◌≤◌}
use native.Mathlib.Omega.{arith}
use borrow.Author.Rules.{rules}
use lib.ListN.{length}
use Rattle.sizes.specs.Sizes.{row_cells}
use Rattle.told.proofs.ToldLaws.{first_ok}
use Rattle.board.specs.Refusals.{board_row_refuses}
use Rattle.board.specs.RefusalLaws.{head_sound, pairs_front}
use Rattle.board.proofs.inner.row_refuses.Goals as goal
use Rattle.board.proofs.inner.row_refuses.Goals.{In_ok-head_refuses}

short : (c : In_ok-head_refuses) → c.args.row.now.len ≤ row_cells
short c = (head_sound _ _ _ (sym c.in_ok-head_refuses.ensures)).most

pub shared_ref_as_front-names : goal.shared_ref_as_front-names
shared_ref_as_front-names c = short (goal.at.shared_ref_as_front-names c).In_ok-head_refuses

pub returns : goal.returns
unfolding board_row_refuses
returns c =
    let row = c.args.row.now in
    let ten : length row.names ≡ row_cells = search rules in
    let fits : row.len ≤ length row.names = omega (arith, short (goal.at.returns c).In_ok-head_refuses) in
    first_ok _ _ _ c.in_ok-head_refuses.ensures (c.pairs_refuse.ensures ∙ pairs_front c.args.cells row.len row.names fits)
