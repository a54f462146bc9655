-- No second answer fits the contract of `search`, nor other choices remaining or other contents of its rooms and tables. Assumes nothing.
use mathlib.Core.Path.{sym, ◌∙◌}
use Rattle.told.proofs.ToldLaws.{same_told_by}
use Rattle.told.specs.Alone.{NoSecondAnswer}
use Rattle.search.specs.Finishing.{word_by, lent}
use Rattle.search.specs.RoomLaws.{verdict_of, verdict_back}
use Rattle.search.proofs.search.Reads as call
use Rattle.search.proofs.search.Kinds as call-kinds

pub search_alone : NoSecondAnswer 6 call-kinds.ps call-kinds.r call.Post
    (λ κs e. lent e.1.0.now e.1.1.0.now e.1.1.1.0.now e.1.1.1.1.0.now e.1.1.1.1.1.0.now)
search_alone κs a x y e f p q = (same_told_by word_by verdict_of verdict_back p.0 q.0, p.1 ∙ sym q.1)
