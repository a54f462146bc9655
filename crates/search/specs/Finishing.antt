-- What the board call `search` refuses, what it says, and what it leaves in what it is lent. Definitions only.
-- file are the bytes of a board file; choices is the number given; room, stack, forward and backward are the domain room, the stack room and the two
-- tables at entry.
use Rattle.std.specs.Prelude.{List, ℕ, ◌-◌, ltb, length, replicate, Result}
use Rattle.told.specs.declared.Refusal.{Refusal}
use Rattle.told.specs.Told.{Told, told_by, when, first, answer, leave}
use Rattle.sizes.specs.Sizes.{stack_size}
use Rattle.listing.specs.Listing.{onto}
use Rattle.board.specs.declared.Board.{Board}
use Rattle.reader.specs.File.{board_in}
use Rattle.reader.specs.Reading.{file_refuses}
use Rattle.settling.specs.Boards.{rows_of}
use Rattle.choose.specs.Advice.{cleared}
use Rattle.advice.specs.Advising.{domains_of, settled_of, rooms_refuse}
use Rattle.searching.specs.Searching.{Found, searched, needed, Ending, solved, none, spent, ends}
use Rattle.search.specs.declared.Ending.{Ending as Verdict}
use Rattle.search.specs.declared.Ending.TheVariants as verdict

-- ---- what is said

-- R-1's three words; the filling stands in the domain room
pub data Word : Type 0 where
  it_is_solved : Word
  there_is_none : Word
  it_is_spent : Word

-- the word for each case of the code's ending; and document 01's number for no, or that word
abbrev pub word_by : Verdict → Word
word_by verdict.Solved = it_is_solved
word_by verdict.None = there_is_none
word_by verdict.Spent = it_is_spent

abbrev pub told : Result Verdict Refusal → Told Word
told result = told_by word_by result

-- the word for each ending, and the domains that then stand in the room; s are the board's settled domains before any choice
abbrev pub word_of : Ending → Word
word_of (solved e) = it_is_solved
word_of none = there_is_none
word_of spent = it_is_spent

abbrev pub domains_after : Ending → List ℕ → List ℕ
domains_after (solved e) s = e
domains_after none s = s
domains_after spent s = s

-- what the search of a board finds, and how it ends with so many choices
unfoldable pub found_on : Board → Found
found_on board = searched (rows_of board) (domains_of board)

abbrev pub end_of : Board → ℕ → Ending
end_of board choices = ends choices (found_on board)

-- the choices that the search of a board needs
abbrev pub needed_on : Board → ℕ
needed_on board = needed (rows_of board) (domains_of board)

-- ---- refusals: 3, 13, 15, then the file

-- 15: stack room below 4,096 entries; by the lengths of the tables, the room and the stack
abbrev pub lent_refuses : ℕ → ℕ → ℕ → ℕ → ℕ
lent_refuses forward backward room stack = first (rooms_refuse forward backward room) (when (ltb stack stack_size) 15)

abbrev pub search_refuses : List ℕ → List ℕ → List ℕ → List ℕ → List ℕ → ℕ
search_refuses file room stack forward backward =
    first (lent_refuses (length forward) (length backward) (length room) (length stack)) (file_refuses file)

-- ---- what `search` says and leaves

abbrev pub search_says : List ℕ → ℕ → List ℕ → List ℕ → List ℕ → List ℕ → Told Word
search_says file choices room stack forward backward =
    answer (search_refuses file room stack forward backward) (word_of (end_of (board_in file) choices))

-- a stack room whose first 4,096 entries are made zero; the rest is unchanged
unfoldable pub emptied : List ℕ → List ℕ
emptied stack = onto (replicate stack_size 0) stack

-- the number of choices, the domain room, the stack room and both tables
pub record Lent : Type 0 where
  pub choices : ℕ
  pub room : List ℕ
  pub stack : List ℕ
  pub forward : List ℕ
  pub backward : List ℕ

abbrev pub lent : ℕ → List ℕ → List ℕ → List ℕ → List ℕ → Lent
lent choices room stack forward backward =
    record { choices = choices; room = room; stack = stack; forward = forward; backward = backward }

-- after a refusal what was lent; else the choices given less those needed, which is none after Spent, the filling or the settled domains at the front of
-- the room, and zeros
abbrev pub search_leaves : List ℕ → ℕ → List ℕ → List ℕ → List ℕ → List ℕ → Lent
search_leaves file choices room stack forward backward =
    leave (search_refuses file room stack forward backward) (lent choices room stack forward backward)
    (lent (choices - needed_on (board_in file))
    (onto (domains_after (end_of (board_in file) choices) (settled_of (board_in file)).left) room)
    (emptied stack)
    (cleared forward)
    (cleared backward))
