-- The sizes of document 01 and of request R-1, each number under one name, and the two refusals that every row shares. Definitions only.
use Rattle.std.specs.Prelude.{ℕ, eqb, ltb}
use Rattle.told.specs.Told.{when, first}

-- values are 0 to 31
abbrev pub values : ℕ
values = 32

-- the most cells in a row
abbrev pub row_cells : ℕ
row_cells = 10

-- the most that low and high may be
abbrev pub highest : ℕ
highest = 511

-- the sums that matter are 0 to 511
abbrev pub sums : ℕ
sums = 512

-- entries of a table: the sums, once for each number of cells from 0 to 10
abbrev pub table_size : ℕ
table_size = 5632

-- the most cells and the most rows on a board
abbrev pub board_cells : ℕ
board_cells = 64

abbrev pub board_rows : ℕ
board_rows = 32

-- domains that the stack room of a search holds: one for each cell, once for each level
abbrev pub stack_size : ℕ
stack_size = 4096

-- the longest board file
abbrev pub file_size : ℕ
file_size = 1062

-- 1: row length 0 or above 10
abbrev pub length_refuses : ℕ → ℕ
length_refuses cells = first (when (eqb cells 0) 1) (when (ltb row_cells cells) 1)

-- 2: low above high, or high above 511
abbrev pub limits_refuse : ℕ → ℕ → ℕ
limits_refuse low high = first (when (ltb high low) 2) (when (ltb highest high) 2)
