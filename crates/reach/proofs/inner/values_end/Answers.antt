-- `inner::values_end` meets its contract: below as many digits as are left of the leading zeros. Assumes nothing.
use Rattle.std.proofs.Common.{◌≡◌, ◌-◌, arith}
use lib.Count.{leading_length, count_leading_zeros}
use Rattle.reach.proofs.inner.values_end.Goals as goal

pub returns-clause-past : goal.returns-clause-past
returns-clause-past c =
    let m = leading_length 32 c.args.domain (omega arith) in
    let e : 32 - count_leading_zeros 32 c.args.domain ≡ m.0 = omega (arith, m.1) in
    rw e m.2
