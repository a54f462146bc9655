-- What a row that is not refused by 1 or 2 is known to be, and that the sizes fit each other. Assumes nothing.
use Rattle.std.specs.Prelude.{◌≡◌, refl, ℕ, suc, ◌+◌, ◌*◌, ◌≤◌, ◌<◌, eqb, ltb}
use Rattle.std.proofs.Common.{arith, ltb-false}
use Rattle.std.proofs.lemmas.Bool.{eqb-false}
use Rattle.told.specs.Told.{when}
use Rattle.told.proofs.ToldLaws.{neither, not_held}
use Rattle.sizes.specs.Sizes.{row_cells, highest, sums, table_size, board_cells, board_rows, stack_size, file_size, length_refuses, limits_refuse}

pub length_sound : (n : ℕ) → length_refuses n ≡ 0 → (0 < n) × (n ≤ row_cells)
length_sound n e =
    let z = neither (when (eqb n 0) 1) (when (ltb row_cells n) 1) e in
    let some = eqb-false n 0 (not_held (eqb n 0) 0 z.0) in
    (omega arith, ltb-false row_cells n (not_held (ltb row_cells n) 0 z.1))

pub limits_sound : (low high : ℕ) → limits_refuse low high ≡ 0 → (low ≤ high) × (high ≤ highest)
limits_sound low high e =
    let z = neither (when (ltb high low) 2) (when (ltb highest high) 2) e in
    (ltb-false high low (not_held (ltb high low) 1 z.0), ltb-false highest high (not_held (ltb highest high) 1 z.1))

-- a sum more than the highest limit; a layer of sums for each number of cells; a level of cells for each cell; every cell, row and pair, and the
-- trailer
pub sums_fit : sums ≡ suc highest
sums_fit = refl

pub table_fits : table_size ≡ suc row_cells * sums
table_fits = refl

pub stack_fits : stack_size ≡ board_cells * board_cells
stack_fits = refl

pub file_fits : file_size ≡ 4 * board_cells + board_rows * (5 + 2 * row_cells) + 6
file_fits = refl
