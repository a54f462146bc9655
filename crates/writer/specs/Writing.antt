-- What the writer refuses, in document 01's order, and what it says and leaves. Definitions only.
use Rattle.std.specs.Prelude.{List, ℕ, length, ltb}
use Rattle.told.specs.Told.{Told, when, first, answer, leave}
use Rattle.listing.specs.Listing.{onto}
use Rattle.board.specs.declared.Board.{Board}
use Rattle.board.specs.Refusals.{board_refuses}
use Rattle.writer.specs.Bytes.{file_of}

-- 14: writer's room shorter than the file
abbrev pub room_refuses : ℕ → ℕ → ℕ
room_refuses room size = when (ltb room size) 14

-- 8, then each row 1, 2 and for each pair 11, 12, then 14
unfoldable pub write_refuses : Board → List ℕ → ℕ
write_refuses board room = first (board_refuses board) (room_refuses (length room) (length (file_of board)))

-- what the writer says, and what its room then holds: bytes past the file are unchanged, all of them after a refusal
abbrev pub write_says : Board → List ℕ → Told ℕ
write_says board room = answer (write_refuses board room) (length (file_of board))

abbrev pub write_leaves : Board → List ℕ → List ℕ
write_leaves board room = leave (write_refuses board room) room (onto (file_of board) room)
