-- What the steps of the writer ask of rows, and leave in the room. Definitions only.
use Rattle.std.specs.Prelude.{◌≡◌, List, ℕ, ◌+◌, ◌≤◌, ◌<◌, length}
use Rattle.std.proofs.lemmas.List.Edits.{sets}
use Rattle.sizes.specs.Sizes.{row_cells}
use Rattle.board.specs.declared.Row.{Row}
use Rattle.board.specs.Board.{row_at}
use Rattle.writer.specs.declared.Pen.{Pen}

-- the first n rows have no more cells than a row may have
abbrev pub ShortRows : List Row → ℕ → Type 0
ShortRows lines n = (i : ℕ) → i < n → (row_at lines i).len ≤ row_cells

-- with these bytes put at a place, a room that held `before` holds `after`: all else is as it was
pub record Put (before : List ℕ) (at : ℕ) (bytes : List ℕ) (after : List ℕ) : Type 0 where
  pub is : after ≡ sets before at bytes

-- what a pen has done that put these bytes: they stand where it was, it is where they end, and its room is the one that it had
pub record Puts (before : Pen) (bytes : List ℕ) (after : Pen) : Type 0 where
  pub put : Put before.room.now before.at bytes after.room.now
  pub at : after.at ≡ before.at + length bytes
  pub same : after.room.ghost_name ≡ before.room.ghost_name
