-- `reader::rows_refuse` meets its contract: the loop stands at the next row, and has passed rows that are not refused. Assumes nothing.
use mathlib.Core.Path.{◌≡◌}
use Prim.Native.Nat.{◌+◌, ◌≤◌}
use lib.ListN.{length}
use Rattle.told.specs.Told.{firsts}
use Rattle.reader.specs.File.{row_place}
use Rattle.reader.specs.Reading.{line_in_refuses}
use Rattle.reader.proofs.rows_refuse.Given as goal

abbrev pub invariant-loop-i : goal.invariant-loop-i
invariant-loop-i l = (l.at ≡ row_place l.file l.i) × (l.at + 6 ≤ length l.file) × (firsts (line_in_refuses l.file) l.i ≡ 0)
