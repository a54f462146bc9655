-- `number_of` meets its contract: the loop has the number that the bytes it passed spell. Assumes nothing.
use mathlib.Core.Path.{◌≡◌}
use Rattle.digits.specs.Digits.{spelled_to}
use Rattle.digits.proofs.number_of.Given as goal

abbrev pub invariant-loop-digit : goal.invariant-loop-digit
invariant-loop-digit l = l.n ≡ spelled_to l.word l.digit-index
