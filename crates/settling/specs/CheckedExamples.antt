-- Two boards, settled by computing the definitions. Assumes nothing.
use Rattle.std.specs.Prelude.{◌≡◌, refl, ℕ}
use mathlib.Core.List.{[], ◌∷◌, flat_map}
use Rattle.listing.specs.Listing.{how_many, below, by_place}
use Rattle.counting.specs.Counting.{listed, domain_of, size, fillings, weigh, count, kept, strike}
use Rattle.settling.specs.Settling.{Row, gather, scatter, visit, pass, after, passes_at_most, passes_made, settle}

-- a row of two cells
abbrev two : ℕ → ℕ → ℕ → ℕ → ℕ → ℕ → Row
two low high a wa b wb = record { cells = a ∷ b ∷ []; weights = wa ∷ wb ∷ []; low = low; high = high }

-- the board of document 01's report
report : settle (two 3 3 0 1 1 1 ∷ two 7 8 1 1 2 2 ∷ []) (0b1110 ∷ 0b1110 ∷ 0b1110 ∷ []) ≡ record { left = 0b110 ∷ 0b110 ∷ 0b1000 ∷ []; passes = 2; struck = 4 }
unfolding settle passes_made passes_at_most after pass visit scatter gather strike kept count weigh fillings domain_of listed size by_place below how_many flat_map
report = refl

-- the first row strikes nothing in the first pass, and then what the last row left makes it strike
back : settle (two 3 3 0 1 1 1 ∷ two 1 1 1 1 2 1 ∷ []) (0b1111 ∷ 0b1111 ∷ 0b1111 ∷ []) ≡ record { left = 0b1100 ∷ 0b11 ∷ 0b11 ∷ []; passes = 3; struck = 6 }
unfolding settle passes_made passes_at_most after pass visit scatter gather strike kept count weigh fillings domain_of listed size by_place below how_many flat_map
back = refl
