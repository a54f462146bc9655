-- How a loop strikes a row, cell after cell. Definitions only.
use Rattle.std.specs.Prelude.{◌≡◌, List, ℕ, length}
use Rattle.listing.specs.Listing.{sum_over, below}
use Rattle.listing.specs.Written.{Written}
use Rattle.counting.specs.Counting.{domain_of, kept, gone}

-- es is ds with the first i domains struck, which lose n values
pub record StruckTo (ws ds : List ℕ) (low high : ℕ) (es : List ℕ) (n i : ℕ) : Type 0 where
  pub size : length es ≡ length ds
  pub number : n ≡ sum_over (λ p. length (gone ws ds low high p)) (below i)
  pub cells : Written (λ p. domain_of (kept ws ds low high p)) ds es 0 i
