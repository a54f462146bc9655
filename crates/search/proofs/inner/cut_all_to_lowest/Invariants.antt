-- `inner::cut_all_to_lowest` meets its contract: the loop has cut the domains passed. Assumes nothing.
use Rattle.std.proofs.Common.{◌^◌, get_or}
use Rattle.listing.specs.Written.{Written}
use Rattle.searching.specs.Searching.{lowest}
use Rattle.search.proofs.inner.cut_all_to_lowest.Given as goal

abbrev pub invariant-loop-domain : goal.invariant-loop-domain
invariant-loop-domain l = Written (λ k. 2 ^ lowest (get_or l.initial.domains k 0)) l.initial.domains l.domains 0 l.domain-index
