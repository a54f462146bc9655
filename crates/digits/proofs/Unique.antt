-- No second answer fits the contract of `number_of`. Assumes nothing.
use mathlib.Core.Path.{refl, sym, ◌∙◌}
use Rattle.told.specs.Alone.{NoSecondAnswer}
use Rattle.digits.proofs.number_of.Reads as number_of_lem
use Rattle.digits.proofs.number_of.Kinds as number-of-kinds

pub number_of_alone : NoSecondAnswer 1 number-of-kinds.ps number-of-kinds.r number_of_lem.Post (λ κs e. tt {0})
number_of_alone κs a x y e f p q = (p ∙ sym q, refl)
