-- No second answer fits the contracts of `length_refuses` and `limits_refuse`. Assumes nothing.
use mathlib.Core.Path.{refl}
use Rattle.told.proofs.ToldLaws.{same_test}
use Rattle.told.specs.Alone.{NoSecondAnswer}
use Rattle.sizes.proofs.length_refuses.Reads as length
use Rattle.sizes.proofs.length_refuses.Kinds as length-kinds
use Rattle.sizes.proofs.limits_refuse.Reads as limits
use Rattle.sizes.proofs.limits_refuse.Kinds as limits-kinds

pub length_refuses_alone : NoSecondAnswer 0 length-kinds.ps length-kinds.r length.Post (λ κs e. tt {0})
length_refuses_alone κs a x y e f p q = (same_test p q, refl)

pub limits_refuse_alone : NoSecondAnswer 0 limits-kinds.ps limits-kinds.r limits.Post (λ κs e. tt {0})
limits_refuse_alone κs a x y e f p q = (same_test p q, refl)
