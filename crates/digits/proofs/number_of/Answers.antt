-- `number_of` meets its contract: the loop has the number that the bytes it passed spell. Assumes nothing.
use Rattle.digits.specs.DigitLaws.{spelled_start, spelled_next}
use Rattle.digits.proofs.number_of.Goals as goal

pub loop-digit-init : goal.loop-digit-init
loop-digit-init c = spelled_start _

pub loop-digit-preserved : goal.loop-digit-preserved
loop-digit-preserved c = spelled_next _ _ _ _ c.loop-digit.invariant c.with_digit-n.ensures
