-- `inner::share` meets its contract: both casts are of numbers up to 2 ^ 50, so the quotient is that of the numbers. Assumes nothing.
use native.Mathlib.Omega.{arith}
use Rattle.fraction.specs.Share.{share_of}
use Rattle.fraction.specs.ShareLaws.{in_float_lem, quotient}
use Rattle.fraction.proofs.inner.share.Goals as goal

pub int_to_float-result : goal.int_to_float-result
int_to_float-result c = in_float_lem _ (omega arith)

pub int_to_float-result-2 : goal.int_to_float-result-2
int_to_float-result-2 c = in_float_lem _ (omega arith)

pub returns : goal.returns
unfolding share_of
returns c = quotient _ _ (omega arith) (omega arith) (omega arith)
