-- Document 01's advice on its report's board and on the Figure row alone, with either tie order: one table, one statement. Assumes nothing.
use Rattle.std.specs.Prelude.{Bool, true, false, ◌&&◌, ℕ, T, eqb}
use mathlib.Core.List.{List, [], ◌∷◌, flat_map}
use Rattle.listing.specs.Listing.{how_many, below}
use Rattle.counting.specs.Counting.{listed, fillings, weigh, total, count}
use Rattle.settling.specs.Settling.{Row, gather}
use Rattle.fraction.specs.Rank.{order}
use Rattle.choosing.specs.Choosing.{Candidate, Ties, to_lowest, to_highest, choices, of_place, of_row, candidates, by_ties, stands, unbeaten, Choice, dead, settled, advise, some_empty, choose}

-- an example: rows, settled domains, the tie order, and the advice that document 01 gives
pub record Example : Type 0 where
  pub rows : List Row
  pub domains : List ℕ
  pub ties : Ties
  pub candidate : Candidate

abbrev right : Candidate → Choice → Bool
right x dead = false
right x settled = false
right x (advise y share) =
    eqb x.row y.row && eqb x.cell y.cell && eqb x.value y.value && eqb x.count y.count && eqb x.total y.total

abbrev hold : List Example → Bool
hold [] = true
hold (e ∷ es) = right e.candidate (choose e.ties e.rows e.domains) && hold es

abbrev row : List ℕ → List ℕ → ℕ → ℕ → Row
row cs ws l h = record { cells = cs; weights = ws; low = l; high = h }

abbrev move : ℕ → ℕ → ℕ → ℕ → ℕ → Candidate
move c v r n t = record { cell = c; value = v; row = r; count = n; total = t }

abbrev figure : Ties → ℕ → Example
figure o v =
    record {
      rows = row (0 ∷ 1 ∷ 2 ∷ 3 ∷ []) (3 ∷ 1 ∷ 2 ∷ 1 ∷ []) 5 8 ∷ [];
      domains = 0b111 ∷ 0b1011 ∷ 0b111 ∷ 0b110 ∷ [];
      ties = o;
      candidate = move 3 v 0 11 22;
    }

abbrev report : Ties → ℕ → Example
report o v =
    record {
      rows = row (0 ∷ 1 ∷ []) (1 ∷ 1 ∷ []) 3 3 ∷ row (1 ∷ 2 ∷ []) (1 ∷ 2 ∷ []) 7 8 ∷ [];
      domains = 0b110 ∷ 0b110 ∷ 0b1000 ∷ [];
      ties = o;
      candidate = move 0 v 0 1 2;
    }

abbrev pub examples : List Example
examples = figure to_lowest 1 ∷ figure to_highest 2 ∷ report to_lowest 1 ∷ report to_highest 2 ∷ []

pub examples_hold : T (hold examples)
unfolding how_many below listed flat_map fillings weigh total count gather order choices of_place of_row candidates by_ties stands unbeaten some_empty choose
examples_hold = tt
