-- `Arcs::push` meets its contract: the places below b have their sums, the others their old numbers. Assumes nothing.
use Rattle.std.proofs.Common.{◌≡◌, ℕ, ◌+◌, ◌*◌, ◌≤◌, ◌<◌, get_or}
use Rattle.layers.specs.Steps.{moved}
use Rattle.layers.proofs.inner.Arcs.push.Given as goal

abbrev pub invariant-loop-b : goal.invariant-loop-b
invariant-loop-b l =
    ((j : ℕ) → j < l.b → get_or l.made j 0 ≡ get_or l.initial.made j 0 + moved l.from 0 (l.fn.self.rise * l.v) (l.fn.self.fall * l.v) j)
    × ((j : ℕ) → l.b ≤ j → get_or l.made j 0 ≡ get_or l.initial.made j 0)
