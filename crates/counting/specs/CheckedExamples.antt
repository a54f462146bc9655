-- Document 01's examples P1 to P10: one table, and the one statement that the definitions give each its number. Assumes nothing.
use Rattle.std.specs.Prelude.{Bool, true, ◌&&◌, ℕ, T, eqb}
use mathlib.Core.List.{List, [], ◌∷◌, flat_map}
use Rattle.listing.specs.Listing.{how_many, below}
use Rattle.counting.specs.Counting.{listed, fillings, weigh, total, count}

-- what is asked of a row: its total, or the count of a place and a value
pub data Asked : Type 0 where
  whole : Asked
  place : ℕ → ℕ → Asked

-- an example: weights, domains, low, high, what is asked, and the number that document 01 gives
pub record Example : Type 0 where
  pub weights : List ℕ
  pub domains : List ℕ
  pub low : ℕ
  pub high : ℕ
  pub asked : Asked
  pub number : ℕ

abbrev pub counted : List ℕ → List ℕ → ℕ → ℕ → Asked → ℕ
counted ws ds low high whole = total ws ds low high
counted ws ds low high (place p v) = count ws ds low high p v

abbrev pub hold : List Example → Bool
hold [] = true
hold (e ∷ es) = eqb (counted e.weights e.domains e.low e.high e.asked) e.number && hold es

abbrev example : List ℕ → List ℕ → ℕ → ℕ → Asked → ℕ → Example
example ws ds l h a n = record { weights = ws; domains = ds; low = l; high = h; asked = a; number = n }

-- the Figure row: weights 3, 1, 2, 1; domains {0,1,2}, {0,1,3}, {0,1,2}, {1,2}; low 5, high 8
abbrev figure : Asked → ℕ → Example
figure = example (3 ∷ 1 ∷ 2 ∷ 1 ∷ []) (0b111 ∷ 0b1011 ∷ 0b111 ∷ 0b110 ∷ []) 5 8

abbrev pub examples : List Example
examples =
    figure whole 22
    ∷ figure (place 0 1) 10
    ∷ figure (place 1 2) 0
    ∷ figure (place 3 1) 11
    ∷ example (0 ∷ []) (0xffff_ffff ∷ []) 0 0 whole 32
    ∷ example (0 ∷ []) (0xffff_ffff ∷ []) 1 1 whole 0
    ∷ example (1 ∷ 1 ∷ []) (0b111 ∷ 0b111 ∷ []) 2 2 whole 3
    ∷ example (2 ∷ 2 ∷ []) (0b1111 ∷ 0b1111 ∷ []) 5 5 whole 0
    ∷ example (255 ∷ []) (0b1100 ∷ []) 510 511 whole 1
    ∷ example (1 ∷ 1 ∷ []) (0b100000 ∷ 0 ∷ []) 0 511 whole 0
    ∷ []

pub examples_hold : T (hold examples)
unfolding how_many below listed flat_map fillings weigh total count
examples_hold = tt
