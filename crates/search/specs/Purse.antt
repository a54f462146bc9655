-- What the choosing step does to a purse. Definitions only.
use Rattle.std.specs.Prelude.{Bool, not, cond, ◌+◌, ◌-◌, eqb}
use Rattle.search.specs.declared.purse.Purse.{Purse}

-- a choice is left
abbrev pub one_left : Purse → Bool
one_left purse = not (eqb purse.left 0)

-- it is taken: one left less, one followed more; where none is left nothing changes
abbrev pub taken : Purse → Purse
taken purse = cond (eqb purse.left 0) purse (record { left = purse.left - 1; followed = purse.followed + 1 })
