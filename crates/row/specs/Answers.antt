-- What the row calls refuse, what they say, and what they leave in the lent rooms. Definitions only.
-- ws are a row's weights, ds its domains at entry, forward and backward the two tables at entry.
use Rattle.std.specs.Prelude.{not, List, ℕ, eqb, ltb, leb, length}
use Rattle.told.specs.Told.{Told, when, first, answer, leave}
use Rattle.sizes.specs.Sizes.{values, table_size, length_refuses, limits_refuse}
use Rattle.listing.specs.Listing.{onto}
use Rattle.counting.specs.Counting.{total, count, strike, struck}
use Rattle.layers.specs.Tables.{forward_table, backward_table}

-- ---- refusals, by the lengths of weights, domains and tables

-- 1: row length 0 or above 10, or the two lists differ in length
abbrev pub lists_refuse : ℕ → ℕ → ℕ
lists_refuse weights cells = first (length_refuses cells) (when (not (eqb weights cells)) 1)

-- 3: a table has fewer than 5,632 entries
abbrev pub tables_refuse : ℕ → ℕ → ℕ
tables_refuse forward backward = first (when (ltb forward table_size) 3) (when (ltb backward table_size) 3)

-- 4: the place asked for isn't in the row, or the value is above 31
abbrev pub place_refuses : ℕ → ℕ → ℕ → ℕ
place_refuses cells place value = first (when (leb cells place) 4) (when (leb values value) 4)

-- every row call: 1, 2, 3
abbrev pub row_refuses : List ℕ → List ℕ → ℕ → ℕ → List ℕ → List ℕ → ℕ
row_refuses ws ds low high forward backward =
    first (lists_refuse (length ws) (length ds)) (first (limits_refuse low high) (tables_refuse (length forward) (length backward)))

-- the count call: 1, 2, 3, 4
abbrev pub count_refuses : List ℕ → List ℕ → ℕ → ℕ → ℕ → ℕ → List ℕ → List ℕ → ℕ
count_refuses ws ds low high place value forward backward =
    first (row_refuses ws ds low high forward backward) (place_refuses (length ds) place value)

-- ---- what the calls say

abbrev pub total_says : List ℕ → List ℕ → ℕ → ℕ → List ℕ → List ℕ → Told ℕ
total_says ws ds low high forward backward = answer (row_refuses ws ds low high forward backward) (total ws ds low high)

abbrev pub count_says : List ℕ → List ℕ → ℕ → ℕ → ℕ → ℕ → List ℕ → List ℕ → Told ℕ
count_says ws ds low high place value forward backward =
    answer (count_refuses ws ds low high place value forward backward) (count ws ds low high place value)

abbrev pub strike_says : List ℕ → List ℕ → ℕ → ℕ → List ℕ → List ℕ → Told ℕ
strike_says ws ds low high forward backward = answer (row_refuses ws ds low high forward backward) (struck ws ds low high)

-- ---- what the lent rooms then hold

-- both tables
abbrev pub Tables : Type 0
Tables = List ℕ × List ℕ

abbrev pub tables : List ℕ → List ℕ → Tables
tables forward backward = (forward, backward)

-- both tables with a row's numbers at the front
abbrev pub filled_tables : List ℕ → List ℕ → ℕ → ℕ → List ℕ → List ℕ → Tables
filled_tables ws ds low high forward backward = tables (onto (forward_table ws ds) forward) (onto (backward_table ws ds low high) backward)

abbrev pub row_leaves : List ℕ → List ℕ → ℕ → ℕ → List ℕ → List ℕ → Tables
row_leaves ws ds low high forward backward =
    leave (row_refuses ws ds low high forward backward) (tables forward backward) (filled_tables ws ds low high forward backward)

abbrev pub count_leaves : List ℕ → List ℕ → ℕ → ℕ → ℕ → ℕ → List ℕ → List ℕ → Tables
count_leaves ws ds low high place value forward backward =
    leave (count_refuses ws ds low high place value forward backward) (tables forward backward) (filled_tables ws ds low high forward backward)

-- the domains, after the striking call
abbrev pub strike_leaves : List ℕ → List ℕ → ℕ → ℕ → List ℕ → List ℕ → List ℕ
strike_leaves ws ds low high forward backward = leave (row_refuses ws ds low high forward backward) ds (strike ws ds low high)

-- the domains with both tables
abbrev pub struck_rooms : List ℕ → Tables → List ℕ × Tables
struck_rooms domains tables = (domains, tables)
