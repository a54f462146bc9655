-- `inner::copy` meets its contract: the places passed have what is copied. Assumes nothing.
use Rattle.std.proofs.Common.{◌≡◌, ℕ, ◌<◌, length, get_or}
use Rattle.search.proofs.inner.copy.Given as goal

abbrev pub invariant-loop-i : goal.invariant-loop-i
invariant-loop-i l = record { long : length l.to ≡ length l.from; copied : (k : ℕ) → k < l.i → get_or l.to k 0 ≡ get_or l.from k 0 }
