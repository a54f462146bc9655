-- The laws of the round trip, over what the reader and the writer say and leave. Assumes nothing.
use Rattle.std.specs.Prelude.{◌≡◌, refl, List, ℕ, ◌^◌, ◌≤◌, ◌<◌, length, get_or, take}
use Rattle.std.proofs.Common.{sym, ap}
use Rattle.told.specs.Told.{says}
use Rattle.told.proofs.ToldLaws.{says_yes, says_back, leaves_new}
use Rattle.sizes.specs.Sizes.{file_size}
use Rattle.listing.specs.Listing.{onto}
use Rattle.listing.specs.Places.{onto_take}
use Rattle.board.specs.declared.Board.{Board}
use Rattle.board.specs.Board.{SameBoard}
use Rattle.board.specs.RefusalLaws.{board_same}
use Rattle.reader.specs.File.{byte, board_in}
use Rattle.reader.specs.Reading.{file_refuses, read_says}
use Rattle.reader.specs.FileLaws.{file_sound}
use Rattle.reader.specs.ReadingLaws.{read_sound, accepted_short}
use Rattle.writer.specs.Bytes.{file_of}
use Rattle.writer.specs.BytesLaws.{file_same}
use Rattle.writer.specs.Writing.{write_refuses, write_says, write_leaves}
use Rattle.writer.specs.WritingLaws.{accepted, accepted_back}
use Rattle.round.specs.Rewritten.{rewritten}
use Rattle.round.specs.Reread.{reread, same}

-- an accepted file is at most 1,062 bytes
pub short_file : (file : List ℕ) (board : Board) → read_says file ≡ says board → length file ≤ file_size
short_file file board e = accepted_short file (says_back (file_refuses file) (board_in file) board (sym e)).0

-- what was read ..
module _ (file : List ℕ) (bytes : (k : ℕ) → byte file k < 256) (board : Board) (read : read_says file ≡ says board) where
  read_board : (file_refuses file ≡ 0) × (board ≡ board_in file)
  read_board = says_back (file_refuses file) (board_in file) board (sym read)

  written_file : file_of board ≡ file
  written_file = rw read_board.1 (rewritten file bytes (file_sound file read_board.0))

  -- .. and is written again is the same bytes
  pub same_bytes : (room : List ℕ) → length file ≤ length room → (write_says board room ≡ says (length file)) × (write_leaves board room ≡ onto file room)
  same_bytes room l =
      let e = written_file in
      let n : length (file_of board) ≤ length room = rw e l in
      let ok = accepted board room (rw read_board.1 (read_sound file read_board.0)) n in
      let size : says (length file) ≡ says (length (file_of board)) = ap says (sym (ap length e)) in
      let held : onto file room ≡ onto (file_of board) room = ap (λ (l : List ℕ). onto l room) (sym e) in
      (sym (says_yes _ (write_refuses board room) refl _ _ ok size), sym (leaves_new _ (write_refuses board room) refl _ _ _ ok held))

  -- .. and the same board
  pub same_again : read_says (file_of board) ≡ says board
  same_again = rw written_file read

-- what the writer accepted and is read again is the same board
pub same_board : (board : Board) (room : List ℕ) (size : ℕ) → ((i : ℕ) → get_or board.domains i 0 < 2 ^ 32) → write_says board room ≡ says size
    → (read_says (take size (write_leaves board room)) ≡ says (board_in (file_of board))) × SameBoard (board_in (file_of board)) board
same_board board room size domains32 e =
    let w = says_back (write_refuses board room) (length (file_of board)) size (sym e) in
    let ok = accepted_back board room w.0 in
    let held : take size (write_leaves board room) ≡ file_of board = rw (w.0, w.1) (onto_take (file_of board) room) in
    let read = says_yes _ (file_refuses (file_of board)) refl _ _ (reread board ok.0 domains32) refl in
    (rw held (sym read), same board ok.0 domains32)

-- spare places don't matter: the same boards are written the same
pub same_written : (a b : Board) (room : List ℕ) → SameBoard a b → (write_says a room ≡ write_says b room) × (write_leaves a room ≡ write_leaves b room)
unfolding write_refuses
same_written a b room s = (rw (board_same a b s, file_same a b s), rw (board_same a b s, file_same a b s))
