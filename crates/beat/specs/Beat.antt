-- What the code's tie orders, candidates and leaders say, for every case. Definitions only.
use Rattle.std.specs.Prelude.{Bool, true, false, ◌<◌, Option, None, Some, IfSome}
use Rattle.choosing.specs.Choosing as choosing
use Rattle.choosing.specs.Going as going
use Rattle.beat.specs.declared.Ties.{Ties}
use Rattle.beat.specs.declared.Ties.TheVariants.{Lowest, Highest}
use Rattle.beat.specs.declared.Candidate.{Candidate}

abbrev pub ties_of : Ties → choosing.Ties
ties_of Lowest = choosing.to_lowest
ties_of Highest = choosing.to_highest

-- ties of values go to the lowest
abbrev pub to_low : Ties → Bool
to_low Lowest = true
to_low Highest = false

abbrev pub candidate_of : Candidate → choosing.Candidate
candidate_of x = record { row = x.row; cell = x.cell; value = x.value; count = x.count; total = x.total }

-- the best so far, if there were any
abbrev pub leader_of : Option Candidate → going.Leader
leader_of None = going.nobody
leader_of (Some x) = going.leads (candidate_of x)

-- the leader has a density
abbrev pub HasTotal : Option Candidate → Type 0
HasTotal leader = IfSome leader (λ x. 0 < x.total)
