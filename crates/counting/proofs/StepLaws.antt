-- A row struck cell after cell: no cell yet, one more, all of them; and the bit of a value. Assumes nothing.
use Rattle.std.specs.Prelude.{◌≡◌, refl, List, ℕ, ◌+◌, ◌*◌, ◌%◌, ◌^◌, ◌≤◌, ◌<◌, get_or, set}
use Rattle.std.proofs.Common.{sym, ap₂, ◌∙◌, le_refl, one-mul, lit<, length-set, shl_exact}
use native.Mathlib.Omega.{arith}
use Rattle.std.proofs.Math.Dec.{eqb}
use Rattle.std.proofs.Math.ListN.{length}
use Rattle.sizes.specs.Sizes.{values}
use Rattle.listing.specs.Listing.{below}
use Rattle.listing.specs.Sums.{sum_nil, sum_turn, sum_le, length_only, length_below}
use Rattle.listing.specs.Writing.{written_none, written_more}
use Rattle.counting.specs.Counting.{listed, domain_of, count, kept, gone, strike, struck}
use Rattle.counting.proofs.Domains.{listed_le}
use Rattle.counting.proofs.Strikes.{strike_only}
use Rattle.counting.specs.Steps.{StruckTo}

-- the bit of a value, as code shifts it
pub value_bit : (v : ℕ) → v < values → 1 * 2 ^ v % 2 ^ values ≡ 2 ^ v
value_bit v h = shl_exact {a = 1} 1 v values (lit< tt) (omega arith) ∙ one-mul (2 ^ v)

module _ (ws ds : List ℕ) (low high : ℕ) where
  pub struck_none : StruckTo ws ds low high ds 0 0
  struck_none = record { size = refl; number = sym (sum_nil _); cells = written_none _ ds 0 }

  module _ (es : List ℕ) (n i : ℕ) (s : StruckTo ws ds low high es n i) where
    -- a cell that is not struck yet has the domain at entry
    pub struck_here : get_or es i 0 ≡ get_or ds i 0
    struck_here = s.cells.late i (le_refl i)

    -- one cell more
    pub struck_more : (domain lost : ℕ) → i < length es → domain ≡ domain_of (kept ws ds low high i) → lost ≡ length (gone ws ds low high i)
        → StruckTo ws ds low high (set es i domain) (n + lost) (i + 1)
    struck_more domain lost h ed el =
        record {
          size = length-set es i domain ∙ s.size;
          number = ap₂ ◌+◌ s.number el ∙ sum_turn _ i;
          cells = written_more _ ds es 0 i domain (omega arith) h ed s.cells;
        }

    -- no more values are gone than the cells have
    pub struck_fits : n ≤ values * i
    unfolding gone
    struck_fits = omega (
      arith,
      s.number,
      length_below i,
      sum_le (λ p. length (gone ws ds low high p)) values (below i) (λ p.
          omega (arith, length_only (λ v. eqb (count ws ds low high p v) 0) (listed (get_or ds p 0)), listed_le (get_or ds p 0))),
    )

  -- the row
  pub struck_all : (es : List ℕ) (n i : ℕ) → StruckTo ws ds low high es n i → i ≡ length ds → (n ≡ struck ws ds low high) × (es ≡ strike ws ds low high)
  unfolding struck
  struck_all es n i s e =
      let t = rw e at s in
      (t.number, strike_only ws ds low high es t.size (λ p h. t.cells.inside p (omega arith) h))
