-- The domains before this one are those of the named cells.
use Rattle.std.proofs.Common.{◌≡◌, ℕ, ◌<◌, length, get_or}
use Rattle.sizes.specs.Sizes.{row_cells}
use Rattle.report.specs.Reporting.{domain_named}
use Rattle.report.proofs.domains_of.Given as goal

abbrev pub invariant-loop-k : goal.invariant-loop-k
invariant-loop-k l = record { long : length l.domains ≡ row_cells; named : (k : ℕ) → k < l.k → get_or l.domains k 0 ≡ domain_named l.room (get_or l.names k 0) }
