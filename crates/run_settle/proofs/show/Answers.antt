-- The board is not refused, so it is sound.
use Rattle.std.proofs.Common.{◌≡◌, length, rules, sym}
use Rattle.sizes.specs.Sizes.{board_cells}
use Rattle.board.specs.Sound.{SoundBoard}
use Rattle.board.specs.RefusalLaws.{board_sound}
use Rattle.run_settle.proofs.show.Goals as goal

pub settle-passes-requires : goal.settle-passes-requires
settle-passes-requires g c =
    let sound : SoundBoard c.args.board = board_sound _ (sym c.in-Ok.ensures) in
    let room : length c.args.board.domains ≡ board_cells = search rules in
    (sound, rw room sound.sizes.cells_most)
