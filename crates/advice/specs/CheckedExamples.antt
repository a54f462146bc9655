-- Document 01's report: what is said of the board of its 36 bytes, computed from the definitions. Assumes nothing.
use Rattle.std.specs.Prelude.{Bool, false, ◌&&◌, ℕ, T, eqb}
use mathlib.Core.List.{List, [], ◌∷◌, flat_map}
use Rattle.told.specs.Told.{firsts}
use Rattle.listing.specs.Listing.{how_many, below, by_place}
use Rattle.counting.specs.Counting.{listed, domain_of, size, fillings, weigh, total, count, kept, strike}
use Rattle.board.specs.Board.{filled}
use Rattle.board.specs.Refusals.{sizes_refuse, head_refuses, repeat_refuses, pair_refuses}
use Rattle.reader.specs.File.{row_in, row_place, board_in}
use Rattle.reader.specs.Reading.{trailer_refuses, row_in_refuses, rows_refuse, file_refuses}
use Rattle.settling.specs.Settling.{gather, scatter, visit, pass, after, passes_at_most, passes_made, settle}
use Rattle.fraction.specs.Rank.{order}
use Rattle.choosing.specs.Choosing.{choices, of_place, of_row, candidates, by_ties, stands, unbeaten, Choice, dead, settled, advise, some_empty, choose}
use Rattle.advice.specs.Advising.{Said, settled_of, said_of}

-- three domains {1,2,3}; two rows; the trailer
abbrev file : List ℕ
file =
    0x0E ∷ 0 ∷ 0 ∷ 0 ∷ 0x0E ∷ 0 ∷ 0 ∷ 0 ∷ 0x0E ∷ 0 ∷ 0 ∷ 0
    ∷ 2 ∷ 3 ∷ 0 ∷ 3 ∷ 0 ∷ 0 ∷ 1 ∷ 1 ∷ 1
    ∷ 2 ∷ 7 ∷ 0 ∷ 8 ∷ 0 ∷ 1 ∷ 1 ∷ 2 ∷ 2
    ∷ 0x0C ∷ 0 ∷ 3 ∷ 2 ∷ 0x53 ∷ 0x4C ∷ []

-- the advice names cell, value, row, count and total
abbrev names : ℕ → ℕ → ℕ → ℕ → ℕ → Choice → Bool
names cell value row count total dead = false
names cell value row count total settled = false
names cell value row count total (advise x share) =
    eqb x.cell cell && eqb x.value value && eqb x.row row && eqb x.count count && eqb x.total total

-- it is not refused; 2 passes, 4 struck; cell 0, value 1, row 0, count 1, total 2
abbrev holds : Said → Bool
holds said = eqb (file_refuses file) 0 && eqb said.passes 2 && eqb said.struck 4 && names 0 1 0 1 2 said.choice

pub report_holds : T (holds (said_of (board_in file)))
unfolding firsts how_many below by_place listed domain_of size flat_map fillings weigh total count kept strike filled sizes_refuse head_refuses repeat_refuses pair_refuses row_in row_place board_in trailer_refuses row_in_refuses rows_refuse file_refuses gather scatter visit pass after passes_at_most passes_made settle order choices of_place of_row candidates by_ties stands unbeaten some_empty choose settled_of
report_holds = tt
