-- `reader::file_refuses` meets its contract: a trailer that is not refused says where the rows start. Assumes nothing.
use mathlib.Core.Path.{sym}
use native.Mathlib.Omega.{arith}
use lib.ListN.{length}
use Rattle.reader.specs.FileLaws.{long_enough, trailer_sound}
use Rattle.reader.proofs.file_refuses.Goals as goal

pub rows_refuse-requires : goal.rows_refuse-requires
rows_refuse-requires c =
    omega (arith, long_enough (length c.args.file.now) (sym c.in_ok-size_refuses.ensures), (trailer_sound _ (sym c.in_ok-trailer_refuses.ensures)).inside)
