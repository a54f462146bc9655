-- `writer::file_size` meets its contract: the sizes of its parts add up, and no file of a board that is not refused is long. Assumes nothing.
use mathlib.Core.Path.{◌≡◌, ap}
use Prim.Native.Nat.{ℕ, ◌+◌, ◌*◌, ◌≤◌}
use native.Mathlib.Omega.{arith}
use borrow.Author.Rules.{rules}
use lib.ListN.{length}
use lib.Seq.{length-take-le}
use Rattle.sizes.specs.Sizes.{board_rows, file_size}
use Rattle.board.specs.RefusalLaws.{board_sound}
use Rattle.writer.specs.Bytes.{file_of}
use Rattle.writer.specs.BytesLaws.{rows_front, short_front, rows_short, file_size_lem, file_short}
use Rattle.writer.proofs.file_size.Goals as goal
use Rattle.writer.proofs.file_size.Goals.{Start, After-rows_size}

rows_fit : (c : Start) → c.args.board.rows ≤ length c.args.board.lines
rows_fit c =
    let all : length c.args.board.lines ≡ board_rows = search rules in
    omega (arith, (board_sound _ c.requires).sizes.rows_most)

-- what is added up is the file's length, which is short
whole : (c : After-rows_size) →
    let file = file_of c.args.board in
    (4 * c.args.board.cells + c.rows_size.result + 6 ≡ length file) × (length file ≤ file_size)
whole c =
    let b = c.args.board in
    let front = ap (length {A = ℕ}) (rows_front b.lines b.rows (rows_fit (goal.at.After-rows_size c).Start)) in
    (omega (arith, front, c.rows_size.ensures, file_size_lem b), file_short _ c.requires)

pub shared_ref_as_front-rows : goal.shared_ref_as_front-rows
shared_ref_as_front-rows c = (board_sound _ c.requires).sizes.rows_most

pub overflow_mul-result : goal.overflow_mul-result
overflow_mul-result c = omega (arith, (board_sound _ c.requires).sizes.cells_most)

pub rows_size-requires : goal.rows_size-requires
rows_size-requires c =
    let b = c.args.board in
    let fit = rows_fit (goal.at.rows_size-requires c).Start in
    (omega (arith, length-take-le b.rows b.lines fit, (board_sound _ c.requires).sizes.rows_most), short_front b.lines b.rows fit (rows_short b c.requires))

pub overflow_add-result : goal.overflow_add-result
overflow_add-result c = let w = whole (goal.at.overflow_add-result c).After-rows_size in omega (arith, w.0, w.1)

pub overflow_add-result-2 : goal.overflow_add-result-2
overflow_add-result-2 c = let w = whole (goal.at.overflow_add-result-2 c).After-rows_size in omega (arith, w.0, w.1)

pub returns : goal.returns
returns c = (whole (goal.at.returns c).After-rows_size).0
