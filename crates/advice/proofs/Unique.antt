-- No second answer fits the contract of `advise`, nor other contents of its room and tables. Assumes nothing.
use mathlib.Core.Path.{sym, ◌∙◌}
use Rattle.told.proofs.ToldLaws.{same_told_by}
use Rattle.told.specs.Alone.{NoSecondAnswer}
use Rattle.advice.specs.Advising.{said_by, rooms}
use Rattle.advice.specs.StepLaws.{advised_of, advised_back}
use Rattle.advice.proofs.advise.Reads as advise
use Rattle.advice.proofs.advise.Kinds as advise-kinds

pub advise_alone : NoSecondAnswer 4 advise-kinds.ps advise-kinds.r advise.Post (λ κs e. rooms e.1.0.now e.1.1.0.now e.1.1.1.0.now)
advise_alone κs a x y e f p q = (same_told_by said_by advised_of advised_back p.0 q.0, p.1 ∙ sym q.1)
