-- Five boards, searched by computing the definitions: one table, and one statement. Assumes nothing.
use Rattle.std.specs.Prelude.{◌≡◌, refl, ℕ}
use mathlib.Core.List.{List, [], ◌∷◌, flat_map}
use Rattle.listing.specs.Listing.{how_many, below, by_place}
use Rattle.counting.specs.Counting.{listed, domain_of, size, fillings, weigh, total, count, kept, strike}
use Rattle.settling.specs.Settling.{Row, gather, scatter, visit, pass, after, passes_at_most, passes_made, settle}
use Rattle.fraction.specs.Rank.{order}
use Rattle.choosing.specs.Choosing.{choices, of_place, of_row, candidates, by_ties, stands, unbeaten, some_empty, choose}
use Rattle.searching.specs.Searching.{lowest, Found, nothing, one, search_in, searched, solved, none, spent, ends, choices_left}

abbrev row : List ℕ → List ℕ → ℕ → ℕ → Row
row cells weights low high = record { cells = cells; weights = weights; low = low; high = high }

-- any two of three cells differ
abbrev apart : ℕ → ℕ → Row
apart a b = row (a ∷ b ∷ []) (1 ∷ 1 ∷ []) 1 1

-- an example: rows, domains, what is found and with how many choices
pub record Example : Type 0 where
  pub rows : List Row
  pub domains : List ℕ
  pub found : Found

abbrev pub Hold : List Example → Type 0
Hold [] = Unit {0}
Hold (e ∷ es) = (searched e.rows e.domains ≡ e.found) × Hold es

abbrev pub examples : List Example
examples =
    -- the board of document 01's report, and a cell in no row
    record {
      rows = row (0 ∷ 1 ∷ []) (1 ∷ 1 ∷ []) 3 3 ∷ row (1 ∷ 2 ∷ []) (1 ∷ 2 ∷ []) 7 8 ∷ [];
      domains = 0b1110 ∷ 0b1110 ∷ 0b1110 ∷ 0b1100 ∷ [];
      found = one (0b10 ∷ 0b100 ∷ 0b1000 ∷ 0b100 ∷ []) 1;
    }
    -- the advice is the first cell's higher value, which two of the three good fillings have
    ∷ record { rows = row (0 ∷ 1 ∷ []) (1 ∷ 1 ∷ []) 1 2 ∷ []; domains = 0b11 ∷ 0b11 ∷ []; found = one (0b10 ∷ 0b1 ∷ []) 2 }
    -- the first advice, 1 in the first cell, is wrong: the search goes back
    ∷ record {
      rows = row (0 ∷ 1 ∷ []) (2 ∷ 1 ∷ []) 2 4 ∷ row (0 ∷ 1 ∷ []) (2 ∷ 1 ∷ []) 4 6 ∷ [];
      domains = 0b111 ∷ 0b10011 ∷ [];
      found = one (0b1 ∷ 0b10000 ∷ []) 2;
    }
    -- it goes back twice, and what failed below the first advice is there again without it
    ∷ record {
      rows = row (1 ∷ 2 ∷ []) (1 ∷ 1 ∷ []) 1 1 ∷ row (0 ∷ 1 ∷ 2 ∷ 3 ∷ []) (1 ∷ 1 ∷ 2 ∷ 3 ∷ []) 3 3 ∷ [];
      domains = 0b11 ∷ 0b11 ∷ 0b11 ∷ 0b11 ∷ [];
      found = one (0b10 ∷ 0b1 ∷ 0b10 ∷ 0b1 ∷ []) 2;
    }
    -- no row strikes anything, and there is no filling
    ∷ record { rows = apart 0 1 ∷ apart 1 2 ∷ apart 2 0 ∷ []; domains = 0b11 ∷ 0b11 ∷ 0b11 ∷ []; found = nothing 1 }
    ∷ []

pub examples_hold : Hold examples
unfolding how_many below by_place listed domain_of size flat_map fillings weigh total count kept strike gather scatter visit pass after passes_at_most passes_made settle order choices of_place of_row candidates by_ties stands unbeaten some_empty choose lowest search_in searched
examples_hold = (refl, (refl, (refl, (refl, (refl, tt)))))

-- what two choices are needed for: two given, and one given
pub numbers_hold : (e : List ℕ)
    → (ends 2 (one e 2) ≡ solved e) × (ends 2 (nothing 2) ≡ none) × (ends 1 (one e 2) ≡ spent) × (choices_left 2 (one e 2) ≡ 0) × (choices_left 5 (nothing 2) ≡ 3)
unfolding ends choices_left
numbers_hold e = (refl, refl, refl, refl, refl)
