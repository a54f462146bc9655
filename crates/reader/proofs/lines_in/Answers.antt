-- `reader::lines_in` meets its contract: the loop stands at the next row, and has filled the places of those that it passed. Assumes nothing.
use mathlib.Core.Path.{ap, ◌∙◌}
use Prim.Native.Nat.{◌<◌}
use native.Mathlib.Omega.{arith}
use Rattle.sizes.specs.Sizes.{board_rows}
use Rattle.board.specs.BoardLaws.{filled_start, filled_next}
use Rattle.reader.specs.File.{row_in}
use Rattle.reader.specs.Sound.{SoundRowIn}
use Rattle.reader.specs.FileLaws.{file_sound}
use Rattle.reader.proofs.Steps.{place_start, place_next}
use Rattle.reader.proofs.lines_in.Goals as goal
use Rattle.reader.proofs.lines_in.Goals.{In-loop-i}

-- there are few rows, and the one at which the loop stands is sound
few : (c : In-loop-i) → c.loop-i.i < board_rows
few c = omega (arith, (file_sound _ c.requires.0).tail.sizes.rows_most, c.requires)

row : (c : In-loop-i) → SoundRowIn c.args.file.now c.loop-i.at
row c =
    let h = c.loop-i in
    rw h.invariant.0 ((file_sound _ c.requires.0).line h.i (omega (arith, c.requires)))

pub loop-i-init : goal.loop-i-init
loop-i-init c = (place_start _ _ c.requires.1, rw c.zero_row-zeros.ensures (filled_start _ _ _))

pub row_at-requires : goal.row_at-requires
row_at-requires c = let r = row (goal.at.row_at-requires c).In-loop-i in (omega (arith, r.fits), r.head.most)

pub bounds-lines-i : goal.bounds-lines-i
bounds-lines-i c = omega (arith, few (goal.at.bounds-lines-i c).In-loop-i)

pub row_end-at-requires : goal.row_end-at-requires
row_end-at-requires c = let r = row (goal.at.row_end-at-requires c).In-loop-i in omega (arith, r.fits)

pub loop-i-preserved : goal.loop-i-preserved
loop-i-preserved c =
    let l = c.loop-i.invariant in (
      place_next _ _ _ _ l.0 c.row_end-at.ensures,
      filled_next _ _ _ _ _ _ l.1 (c.row_at.ensures ∙ ap (row_in _) l.0) (few (goal.at.loop-i-preserved c).In-loop-i),
    )
