-- The lent stack room level by level, and what a step and a search of it promise. Definitions only.
-- n is the number of cells, h the number of levels in use, d the domains that are looked at.
use Rattle.std.specs.Prelude.{◌≡◌, List, [], ◌∷◌, ◌++◌, ℕ, zero, suc, ◌+◌, ◌-◌, ◌*◌, ◌^◌, ◌≤◌, ◌<◌, length, take, drop, replicate, Option, None, Some}
use Rattle.sizes.specs.Sizes.{board_cells, stack_size}
use Rattle.listing.specs.Listing.{onto}
use Rattle.board.specs.declared.Board.{Board}
use Rattle.board.specs.Sound.{SoundBoard}
use Rattle.settling.specs.Settling.{Row}
use Rattle.settling.specs.Boards.{rows_of}
use Rattle.advice.specs.Advising.{settled_of}
use Rattle.searching.specs.Searching.{Found, Ending, solved, none, spent, ends, choices_left}
use Rattle.searching.specs.Promised.{Playable}
use Rattle.searching.specs.Levels.{search_all, open_cells}
use Rattle.search.specs.declared.purse.Purse.{Purse}
use Rattle.search.specs.declared.Ending.{Ending as Verdict}
use Rattle.search.specs.declared.Ending.TheVariants as verdict
use Rattle.search.specs.Finishing.{word_by, word_of, domains_after, end_of, needed_on, emptied}

-- ---- levels

-- a level every 64 entries, n domains at its front; and a room with x saved at level h
abbrev pub level : ℕ → ℕ → List ℕ → List ℕ
level n h stack = take n (drop (board_cells * h) stack)

abbrev pub saved : List ℕ → ℕ → List ℕ → List ℕ
saved stack h x = take (board_cells * h) stack ++ (x ++ drop (board_cells * h + length x) stack)

-- the first h levels, last first
unfoldable pub levels : ℕ → ℕ → List ℕ → List (List ℕ)
levels n zero stack = []
levels n (suc h) stack = level n h stack ∷ levels n h stack

-- domains still to be tried: each playable, of n cells, and with at most as many open cells as levels may still be saved above it
unfoldable pub Roomy : List Row → ℕ → List (List ℕ) → Type 0
Roomy rs n [] = Unit {0}
Roomy rs n (d ∷ ds) = Playable rs d × (length d ≡ n) × (length ds + open_cells d ≤ n) × Roomy rs n ds

-- ---- steps

-- a search under way: what it still has to try is d and then the levels in use, last first
abbrev pub trying : ℕ → List ℕ → List ℕ → List (List ℕ)
trying h d stack = d ∷ levels (length d) h stack

pub record UnderWay (board : Board) (h : ℕ) (purse : Purse) (d stack : List ℕ) : Type 0 where
  pub sound : SoundBoard board
  pub cells : length d ≡ board.cells
  pub roomy : Roomy (rows_of board) (length d) (trying h d stack)
  pub stack_room : stack_size ≤ length stack
  pub purse_fits : purse.left + purse.followed < 2 ^ 64

-- the ending that the code's stands for; after Solved d is the filling
abbrev pub shown : Verdict → List ℕ → Ending
shown verdict.Solved d = solved d
shown verdict.None d = none
shown verdict.Spent d = spent

-- the same ending and the same choices remaining come from what is found now, with these choices left, as from what was found before
pub record Same (left : ℕ) (now : Found) (before-left : ℕ) (before : Found) : Type 0 where
  pub same_end : ends left now ≡ ends before-left before
  pub same_left : choices_left left now ≡ choices_left before-left before

-- a step goes on from other domains and levels, and comes nearer to the end; or it is over
pub record Onward (rs : List Row) (h : ℕ) (purse : Purse) (d stack : List ℕ) (h' : ℕ) (purse' : Purse) (d' stack' : List ℕ) : Type 0 where
  pub same : Same purse'.left (search_all rs (trying h' d' stack')) purse.left (search_all rs (trying h d stack))
  pub cells : length d' ≡ length d
  pub roomy : Roomy rs (length d') (trying h' d' stack')
  pub nearer : 2 * purse'.left + h' < 2 * purse.left + h
  pub purse_same : purse'.left + purse'.followed ≡ purse.left + purse.followed

pub record Ended (purse : Purse) (before : Found) (v : Verdict) (purse' : Purse) (d' : List ℕ) : Type 0 where
  pub end : shown v d' ≡ ends purse.left before
  pub remains : purse'.left ≡ choices_left purse.left before
  pub purse_same : purse'.left + purse'.followed ≡ purse.left + purse.followed

-- the same of a search that begins, with so many choices
abbrev pub Came : ℕ → Found → Verdict → Purse → List ℕ → Type 0
Came choices before v purse' d' = Ended (record { left = choices; followed = 0 }) before v purse' d'

abbrev pub Stepped : List Row → ℕ → Purse → List ℕ → List ℕ → Option Verdict → ℕ → Purse → List ℕ → List ℕ → Type 0
Stepped rs h purse d stack None h' purse' d' stack' = Onward rs h purse d stack h' purse' d' stack'
Stepped rs h purse d stack (Some v) h' purse' d' stack' = Ended purse (search_all rs (trying h d stack)) v purse' d'

-- ---- the whole search

-- on slices of just the sizes that it takes
pub record Ran (board : Board) (choices : ℕ) (v : Verdict) (purse : Purse) (d stack : List ℕ) : Type 0 where
  pub word : word_by v ≡ word_of (end_of board choices)
  pub remains : purse.left ≡ choices - needed_on board
  pub purse_same : purse.left + purse.followed ≡ choices
  pub domains_are : d ≡ domains_after (end_of board choices) (settled_of board).left
  pub stack_is : stack ≡ replicate stack_size 0

-- in the rooms lent, which held room and stack
pub record Finished (board : Board) (choices : ℕ) (room stack : List ℕ) (v : Verdict) (purse : Purse) (new-room new-stack : List ℕ) : Type 0 where
  pub word : word_by v ≡ word_of (end_of board choices)
  pub remains : purse.left ≡ choices - needed_on board
  pub purse_same : purse.left + purse.followed ≡ choices
  pub room_is : new-room ≡ onto (domains_after (end_of board choices) (settled_of board).left) room
  pub stack_is : new-stack ≡ emptied stack
