-- What the board call `advise` refuses, what it says, and what it leaves in the lent rooms. Definitions only.
-- file are the bytes of a board file; room, forward and backward are the domain room and the two tables at entry.
use Rattle.std.specs.Prelude.{◌≡◌, List, ℕ, ltb, length, Result}
use Rattle.told.specs.declared.Refusal.{Refusal}
use Rattle.told.specs.Told.{Told, told_by, when, first, answer, leave}
use Rattle.sizes.specs.Sizes.{table_size, board_cells}
use Rattle.listing.specs.Listing.{onto}
use Rattle.board.specs.declared.Board.{Board}
use Rattle.reader.specs.File.{board_in}
use Rattle.reader.specs.Reading.{file_refuses}
use Rattle.settling.specs.Settling.{Row, Settled, settle}
use Rattle.settling.specs.Boards.{front, rows_of}
use Rattle.choosing.specs.Choosing.{Choice, Ties, to_lowest, choose}
use Rattle.choose.specs.declared.Tables.{Tables}
use Rattle.choose.specs.Advice.{told as adviceTold, cleared}
use Rattle.choose.specs.Rooms.{SameRooms}
use Rattle.advice.specs.declared.Advised.{Advised}

-- ---- what is said

-- passes and struck with the choice: dead, settled or advise
pub record Said : Type 0 where
  pub passes : ℕ
  pub struck : ℕ
  pub choice : Choice

-- its words and values for what is answered; and document 01's number for no, or these
abbrev pub said_by : Advised → Said
said_by a = record { passes = a.tally.passes; struck = a.tally.struck; choice = adviceTold a.advice }

abbrev pub told : Result Advised Refusal → Told Said
told answer = told_by said_by answer

-- a board's domains, what settling leaves of them, and what is then said; ties go to the lowest value
abbrev pub domains_of : Board → List ℕ
domains_of board = front board.cells board.domains

unfoldable pub settled_of : Board → Settled
settled_of board = settle (rows_of board) (domains_of board)

-- what settling domains, and choosing on what is left of them, comes to
abbrev pub said_on : Ties → List Row → List ℕ → Said
said_on ties rs d = record { passes = (settle rs d).passes; struck = (settle rs d).struck; choice = choose ties rs (settle rs d).left }

abbrev pub said_of : Board → Said
said_of board =
    record { passes = (settled_of board).passes; struck = (settled_of board).struck; choice = choose to_lowest (rows_of board) (settled_of board).left }

-- ---- refusals: 3, 13, then the file

-- 3: a table has fewer than 5,632 entries; 13: domain room below 64 entries; by the lengths of the tables and the room
abbrev pub rooms_refuse : ℕ → ℕ → ℕ → ℕ
rooms_refuse forward backward room =
    first (when (ltb forward table_size) 3)
    (first (when (ltb backward table_size) 3)
    (when (ltb room board_cells) 13))

abbrev pub advise_refuses : List ℕ → List ℕ → List ℕ → List ℕ → ℕ
advise_refuses file room forward backward = first (rooms_refuse (length forward) (length backward) (length room)) (file_refuses file)

-- ---- what `advise` says and leaves

abbrev pub advise_says : List ℕ → List ℕ → List ℕ → List ℕ → Told Said
advise_says file room forward backward = answer (advise_refuses file room forward backward) (said_of (board_in file))

-- the domain room and both tables
abbrev pub Rooms : Type 0
Rooms = List ℕ × List ℕ × List ℕ

abbrev pub rooms : List ℕ → List ℕ → List ℕ → Rooms
rooms room forward backward = (room, forward, backward)

-- what choosing leaves of two tables that are handed on: zeros in the first 5,632 entries of each, and each still the one that was lent
pub record Cleared (old new : Tables) : Type 0 where
  pub rooms_same : SameRooms old new
  pub forward_is : new.forward.now ≡ cleared old.forward.now
  pub backward_is : new.backward.now ≡ cleared old.backward.now

-- the settled domains at the front of the room, and zeros in the first 5,632 entries of each table
abbrev pub advise_leaves : List ℕ → List ℕ → List ℕ → List ℕ → Rooms
advise_leaves file room forward backward =
    leave (advise_refuses file room forward backward) (rooms room forward backward)
    (rooms (onto (settled_of (board_in file)).left room) (cleared forward) (cleared backward))
