-- The row that a row ready to be gone through holds. Definitions only.
use Rattle.settling.specs.Settling.{Row}
use Rattle.settling.specs.Boards.{row_with}
use Rattle.choose.specs.declared.ready.ReadyRow.{ReadyRow}

abbrev pub line_of : ReadyRow → Row
line_of row = row_with row.names.now row.weights.now row.low row.high
