-- `Pen::put` meets its contract: the bytes are copied into the part that begins at its place. Assumes nothing.
use mathlib.Core.Path.{refl}
use Rattle.writer.proofs.Runs.{put_is}
use Rattle.writer.proofs.Pen.put.Goals as goal

pub returns : goal.returns
returns c = record { put = record { is = put_is _ _ _ _ c.copy_from_slice.ensures.after c.requires }; at = refl; same = refl }
