-- `board::inner::board_refuses` meets its contract: sizes that are not refused say how many rows there are. Assumes nothing.
use mathlib.Core.Path.{◌≡◌, sym, ◌∙◌}
use Prim.Native.Nat.{◌≤◌}
use native.Mathlib.Omega.{arith}
use borrow.Author.Rules.{rules}
use lib.ListN.{length}
use lib.Seq.{length-take-le}
use Rattle.sizes.specs.Sizes.{board_rows}
use Rattle.told.proofs.ToldLaws.{first_ok}
use Rattle.board.specs.Refusals.{board_refuses}
use Rattle.board.specs.RefusalLaws.{sizes_sound, rows_front}
use Rattle.board.proofs.inner.board_refuses.Goals as goal
use Rattle.board.proofs.inner.board_refuses.Goals.{In_ok-sizes_refuse}

few : (c : In_ok-sizes_refuse) → c.args.board.rows ≤ length c.args.board.lines
few c =
    let all : length c.args.board.lines ≡ board_rows = search rules in
    omega (arith, (sizes_sound _ _ (sym c.in_ok-sizes_refuse.ensures)).rows_most)

pub slice_bounds-lines-end : goal.slice_bounds-lines-end
slice_bounds-lines-end c = few (goal.at.slice_bounds-lines-end c).In_ok-sizes_refuse

pub slice_bounds-rows-end : goal.slice_bounds-rows-end
slice_bounds-rows-end c = sym (length-take-le _ _ (few (goal.at.slice_bounds-rows-end c).In_ok-sizes_refuse))

pub returns : goal.returns
unfolding board_refuses
returns c =
    let board = c.args.board in
    first_ok _ _ _ c.in_ok-sizes_refuse.ensures (c.rows_refuse.ensures ∙ rows_front board.cells board.rows board.lines (few (goal.at.returns c).In_ok-sizes_refuse))
