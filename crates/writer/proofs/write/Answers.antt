-- `writer::write` meets its contract: what the pen has put stands at the front of the room. Assumes nothing.
use mathlib.Core.Path.{refl, sym, ◌∙◌}
use Prim.Native.Nat.{◌≤◌}
use native.Mathlib.Omega.{arith}
use lib.ListN.{length}
use Rattle.told.proofs.ToldLaws.{leaves_new}
use Rattle.writer.specs.Bytes.{file_of}
use Rattle.writer.specs.WritingLaws.{accepted}
use Rattle.writer.proofs.Runs.{put_front}
use Rattle.writer.proofs.write.Goals as goal

pub returns-clause-room_after : goal.returns-clause-room_after
returns-clause-room_after c =
    let fits : length (file_of c.args.board) ≤ length c.args.room.now = omega (arith, c.file_size-size.ensures, c.if-room-size.false) in
    let none = accepted _ _ (sym c.in_ok-board_refuses.ensures) fits in
    leaves_new _ _ refl _ _ _ none (c.room-1.given.1.1 (sym c.file.ensures.same) ∙ put_front c.file.ensures.put fits)
