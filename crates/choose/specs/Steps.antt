-- What the steps of the choice require, and leave of the tables. Definitions only.
use Rattle.std.specs.Prelude.{◌≡◌, List, ℕ, length, drop}
use Rattle.sizes.specs.Sizes.{table_size}
use Rattle.board.specs.declared.Board.{Board}
use Rattle.board.specs.Sound.{SoundBoard}
use Rattle.settling.specs.Settling.{Row, Fits, gather, row_total, Supported, Consistent}
use Rattle.settling.specs.Boards.{rows_of}
use Rattle.row.specs.Cells.{Filled}
use Rattle.choosing.specs.Choosing.{Candidate}
use Rattle.choosing.specs.Going.{through}
use Rattle.beat.specs.Beat.{ties_of, leader_of}
use Rattle.choose.specs.declared.best.Best.{Best}
use Rattle.choose.specs.declared.Tables.{Tables}
use Rattle.choose.specs.Rooms.{SameRooms}

-- a sound board, and settled domains d, one for each cell
pub record Choosable (board : Board) (d : List ℕ) : Type 0 where
  pub sound : SoundBoard board
  pub cells : length d ≡ board.cells
  pub consistent : Consistent (rows_of board) d

-- a row over settled domains d, with its own domains in part, its total, and tables filled for it
pub record Ready (r : Row) (d part : List ℕ) (total : ℕ) (forward backward : List ℕ) : Type 0 where
  pub fits : Fits (length d) r
  pub supported : Supported d r
  pub part_is : part ≡ gather d r.cells
  pub total_is : total ≡ row_total r d
  pub filled : Filled r.weights part r.low r.high forward backward

-- the rest of a table is unchanged
abbrev pub SameRest : List ℕ → List ℕ → Type 0
SameRest old new = drop table_size new ≡ drop table_size old

-- the same tables, and the rest of each is unchanged
pub record Kept (old new : Tables) : Type 0 where
  pub rooms : SameRooms old new
  pub forward : SameRest old.forward.now new.forward.now
  pub backward : SameRest old.backward.now new.backward.now

-- the best so far, after these candidates more
pub record After (old : Best) (xs : List Candidate) (new : Best) : Type 0 where
  pub same_ties : new.ties ≡ old.ties
  pub leader : leader_of new.leader ≡ through (ties_of old.ties) (leader_of old.leader) xs
