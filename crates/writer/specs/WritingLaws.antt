-- When the writer refuses and when it accepts. Assumes nothing.
use Rattle.std.specs.Prelude.{◌≡◌, List, ℕ, ◌≤◌, ◌<◌, length, ltb}
use Rattle.std.proofs.Math.Path.{refl, sym}
use borrow.Author.Tests.{lt-ltb, le-ltb, ltb-false}
use Rattle.told.proofs.ToldLaws.{past_call, at_call, past_last, at_last, neither, not_held}
use Rattle.board.specs.declared.Board.{Board}
use Rattle.board.specs.Refusals.{board_refuses}
use Rattle.writer.specs.Bytes.{file_of}
use Rattle.writer.specs.Writing.{room_refuses, write_refuses}

module _ (board : Board) (room : List ℕ) where
  pub refused_board : (n : ℕ) → n ≡ board_refuses board → (n ≡ 0 → ⊥) → n ≡ write_refuses board room
  unfolding write_refuses
  refused_board n e some = at_call n _ _ e some

  module _ (e : board_refuses board ≡ 0) where
    pub refused_room : length room < length (file_of board) → 14 ≡ write_refuses board room
    unfolding write_refuses
    refused_room l = past_call 0 _ 14 _ (sym e) refl (at_last _ 14 (lt-ltb _ _ l))

    pub accepted : length (file_of board) ≤ length room → write_refuses board room ≡ 0
    unfolding write_refuses
    accepted l = sym (past_call 0 _ 0 _ (sym e) refl (past_last _ 14 (le-ltb _ _ l)))

  -- what the writer accepted
  pub accepted_back : write_refuses board room ≡ 0 → (board_refuses board ≡ 0) × (length (file_of board) ≤ length room)
  unfolding write_refuses
  accepted_back e =
      let z = neither (board_refuses board) (room_refuses (length room) (length (file_of board))) e in
      (z.0, ltb-false (length room) (length (file_of board)) (not_held (ltb (length room) (length (file_of board))) 13 z.1))
