-- No second answer fits the contract of `write`, and no other content of its room. Assumes nothing.
use mathlib.Core.Path.{sym, ◌∙◌}
use Rattle.told.proofs.ToldLaws.{same_told}
use Rattle.told.specs.Alone.{NoSecondAnswer}
use Rattle.writer.proofs.write.Reads as write
use Rattle.writer.proofs.write.Kinds as write-kinds

pub write_alone : NoSecondAnswer 1 write-kinds.ps write-kinds.r write.Post (λ κs e. e.1.0.now)
write_alone κs a x y e f p q = (same_told p.0 q.0, p.1 ∙ sym q.1)
