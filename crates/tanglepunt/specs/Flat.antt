-- What a call tells, as a struct of numbers: `refused` is the number for no, or 0, and a field that the answer doesn't use is 0. Definitions only.
use Prim.Native.Nat.{ℕ, Ordering}
use Rattle.told.specs.Told.{Told, refused, says}
use Rattle.board.specs.declared.Board.{Board}
use Rattle.board.specs.Board.{zero_board}
use Rattle.fraction.specs.Share.{share_of}
use Rattle.choosing.specs.Choosing.{Choice, dead, settled, advise}
use Rattle.advice.specs.Advising.{Said}
use Rattle.search.specs.Finishing.{Word, it_is_solved, there_is_none, it_is_spent}
use Rattle.tanglepunt.specs.declared.Number.{Number}
use Rattle.tanglepunt.specs.declared.Order.{Order}
use Rattle.tanglepunt.specs.declared.Counts.{Counts}
use Rattle.tanglepunt.specs.declared.Reading.{Reading}
use Rattle.tanglepunt.specs.declared.Advice.{Advice}
use Rattle.tanglepunt.specs.declared.Ending.{Ending}

-- a number
abbrev pub number_of : Told ℕ → Number
number_of (says n) = record { refused = 0; number = n }
number_of (refused n) = record { refused = n; number = 0 }

-- how two fractions stand: 0 is below, 1 equal, 2 above
abbrev pub order_of : Told Ordering → Order
order_of (says Ordering.lt) = record { refused = 0; order = 0 }
order_of (says Ordering.eq) = record { refused = 0; order = 1 }
order_of (says Ordering.gt) = record { refused = 0; order = 2 }
order_of (refused n) = record { refused = n; order = 0 }

-- the numbers of cells and of rows
abbrev pub counts_of : Told (ℕ × ℕ) → Counts
counts_of (says both) = record { refused = 0; cells = both.0; rows = both.1 }
counts_of (refused n) = record { refused = n; cells = 0; rows = 0 }

-- a board, all zero where the file is refused
abbrev pub board_with : ℕ → Board → Reading
board_with n board = record { refused = n; board = board }

abbrev pub reading_of : Told Board → Reading
reading_of (says board) = board_with 0 board
reading_of (refused n) = board_with n zero_board

-- an advice without a move; the share of 0 in 1 is the double 0
abbrev pub plain_of : ℕ → ℕ → ℕ → ℕ → Advice
plain_of n kind passes struck =
    record {
      refused = n;
      kind = kind;
      passes = passes;
      struck = struck;
      cell = 0;
      value = 0;
      row = 0;
      count = 0;
      total = 0;
      share = share_of 0 1;
    }

-- the choice after so many passes and struck values: 0 is Dead, 1 Settled, 2 Advise
abbrev pub chosen_of : ℕ → ℕ → Choice → Advice
chosen_of passes struck dead = plain_of 0 0 passes struck
chosen_of passes struck settled = plain_of 0 1 passes struck
chosen_of passes struck (advise x share) =
    record {
      refused = 0;
      kind = 2;
      passes = passes;
      struck = struck;
      cell = x.cell;
      value = x.value;
      row = x.row;
      count = x.count;
      total = x.total;
      share = share;
    }

abbrev pub advice_of : Told Said → Advice
advice_of (says said) = chosen_of said.passes said.struck said.choice
advice_of (refused n) = plain_of n 0 0 0

-- how a search ended: 0 is Solved, 1 None, 2 Spent
abbrev pub ending_of : Told Word → Ending
ending_of (says it_is_solved) = record { refused = 0; ending = 0 }
ending_of (says there_is_none) = record { refused = 0; ending = 1 }
ending_of (says it_is_spent) = record { refused = 0; ending = 2 }
ending_of (refused n) = record { refused = n; ending = 0 }
