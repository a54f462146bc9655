-- No second answer fits the contracts of `total`, `count` and `strike`, the lent tables and domains included. Assumes nothing.
use mathlib.Core.Path.{sym, ap₂, ◌∙◌}
use Rattle.told.proofs.ToldLaws.{same_told}
use Rattle.told.specs.Alone.{NoSecondAnswer}
use Rattle.row.specs.Answers.{tables, struck_rooms}
use Rattle.row.proofs.total.Reads as total
use Rattle.row.proofs.total.Kinds as total-kinds
use Rattle.row.proofs.count.Reads as count
use Rattle.row.proofs.count.Kinds as count-kinds
use Rattle.row.proofs.strike.Reads as strike
use Rattle.row.proofs.strike.Kinds as strike-kinds

pub total_alone : NoSecondAnswer 4 total-kinds.ps total-kinds.r total.Post (λ κs e. tables e.1.1.1.1.0.now e.1.1.1.1.1.0.now)
total_alone κs a x y e f p q = (same_told p.0 q.0, p.1 ∙ sym q.1)

pub count_alone : NoSecondAnswer 4 count-kinds.ps count-kinds.r count.Post (λ κs e. tables e.1.1.1.1.1.1.0.now e.1.1.1.1.1.1.1.0.now)
count_alone κs a x y e f p q = (same_told p.0 q.0, p.1 ∙ sym q.1)

pub strike_alone : NoSecondAnswer 4 strike-kinds.ps strike-kinds.r strike.Post (λ κs e. struck_rooms e.1.0.now (tables e.1.1.1.1.0.now e.1.1.1.1.1.0.now))
strike_alone κs a x y e f p q =
    (same_told p.0 q.0, ap₂ struck_rooms (p.1.1 ∙ sym q.1.1) (p.1.0 ∙ sym q.1.0))
