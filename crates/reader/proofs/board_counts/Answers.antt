-- `reader::board_counts` meets its contract: the answer taken apart has a board whose numbers of cells and rows are the file's. Assumes nothing.
use mathlib.Core.Path.{refl}
use Rattle.told.proofs.ToldLaws.{says_yes}
use Rattle.reader.specs.File.{board_in}
use Rattle.reader.specs.ReadingLaws.{said_read}
use Rattle.reader.proofs.board_counts.Goals as goal

pub returns : goal.returns
unfolding board_in
returns c =
    let z = said_read _ _ _ c.in-Ok.is c.read-outcome.ensures.read_value in
    says_yes _ _ refl _ _ z.0 (rw z.1)
