-- What advising a move means, in document 01's words. Definitions only; their laws stand in proofs/ and in the files beside this one.
-- rs are a board's rows and d its domains, one for each cell; i is a row's number, p a place in it, both from 0, and v a value.
use Rattle.std.specs.Prelude.{Bool, true, false, cond, ◌||◌, eqb, ltb, Float, length, get_or}
use mathlib.Core.List.{List, [], ◌∷◌, map, flat_map}
use Prim.Native.Nat.{ℕ, compare, Ordering}
use Rattle.listing.specs.Listing.{only, how_many, below}
use Rattle.counting.specs.Counting.{listed}
use Rattle.settling.specs.Settling.{Row, row_total, row_count}
use Rattle.fraction.specs.Rank.{order}
use Rattle.fraction.specs.Share.{share_of}

-- ---- the candidates

-- a triple of row, cell in it and value, with its count and its row's total: its density is count over total
pub record Candidate : Type 0 where
  pub row : ℕ
  pub cell : ℕ
  pub value : ℕ
  pub count : ℕ
  pub total : ℕ

-- row i, or one with no cells past the last; and a row's domain at place p
abbrev pub no_row : Row
no_row = record { cells = []; weights = []; low = 0; high = 0 }

abbrev pub row_at : List Row → ℕ → Row
row_at rs i = get_or rs i no_row

abbrev pub domain_at : Row → List ℕ → ℕ → ℕ
domain_at r d p = get_or d (get_or r.cells p 0) 0

-- the values that a domain leaves to choose from: those listed, where there are two or more
unfoldable pub choices : ℕ → List ℕ
choices e = cond (ltb 1 (length (listed e))) (listed e) []

-- row i, which is r, with the value v at place p
abbrev pub candidate : ℕ → Row → List ℕ → ℕ → ℕ → Candidate
candidate i r d p v = record { row = i; cell = get_or r.cells p 0; value = v; count = row_count r d p v; total = row_total r d }

-- all triples of row, cell in it with two or more values left, and listed value: those of a place, of a row, and of the board
unfoldable pub of_place : ℕ → Row → List ℕ → ℕ → List Candidate
of_place i r d p = map (candidate i r d p) (choices (domain_at r d p))

unfoldable pub of_row : ℕ → Row → List ℕ → List Candidate
of_row i r d = flat_map (of_place i r d) (below (length r.cells))

unfoldable pub candidates : List Row → List ℕ → List Candidate
candidates rs d = flat_map (λ i. of_row i (row_at rs i) d) (below (length rs))

-- ---- what beats what

-- which value goes first where densities and cells are equal; document 01's rule is the lowest
pub data Ties : Type 0 where
  to_lowest : Ties
  to_highest : Ties

-- how x stands to y: by the higher density, by the lower cell, by the value that goes first, by the lower row
abbrev pub by_density : Candidate → Candidate → Ordering
by_density x y = order x.count x.total y.count y.total

abbrev pub by_cell : Candidate → Candidate → Ordering
by_cell x y = compare y.cell x.cell

abbrev pub by_value : Ties → Candidate → Candidate → Ordering
by_value to_lowest x y = compare y.value x.value
by_value to_highest x y = compare x.value y.value

abbrev pub by_row : Candidate → Candidate → Ordering
by_row x y = compare y.row x.row

-- the first decides, and where it finds no difference the second
abbrev pub and_then : Ordering → Ordering → Ordering
and_then Ordering.lt q = Ordering.lt
and_then Ordering.eq q = q
and_then Ordering.gt q = Ordering.gt

abbrev pub is_above : Ordering → Bool
is_above Ordering.lt = false
is_above Ordering.eq = false
is_above Ordering.gt = true

-- ties of density go to the lowest cell, then by the tie order of values, then to the lowest row
unfoldable pub by_ties : Ties → Candidate → Candidate → Ordering
by_ties o x y = and_then (by_cell x y) (and_then (by_value o x y) (by_row x y))

unfoldable pub stands : Ties → Candidate → Candidate → Ordering
stands o x y = and_then (by_density x y) (by_ties o x y)

-- x beats y
abbrev pub beats : Ties → Candidate → Candidate → Bool
beats o x y = is_above (stands o x y)

-- the candidates that nothing beats
unfoldable pub unbeaten : Ties → List Candidate → List Candidate
unbeaten o xs = only (λ x. eqb (how_many (λ y. beats o y x) xs) 0) xs

-- ---- the choice

-- what the advice is: the board is dead, or settled, or a candidate with its share as a double
pub data Choice : Type 0 where
  dead : Choice
  settled : Choice
  advise : Candidate → Float → Choice

-- some domain is empty
unfoldable pub some_empty : List ℕ → Bool
some_empty [] = false
some_empty (e ∷ d) = eqb e 0 || some_empty d

-- the candidate that nothing beats, if there are candidates
abbrev pub advised : List Candidate → Choice
advised [] = settled
advised (x ∷ xs) = advise x (share_of x.count x.total)

-- the first of these that applies
unfoldable pub choose : Ties → List Row → List ℕ → Choice
choose o rs d = cond (some_empty d) dead (advised (unbeaten o (candidates rs d)))
