-- What the promises of a search speak of: the boards, and a filling as domains. Definitions only.
-- rs are a board's rows and d its domains, one for each cell.
use Rattle.std.specs.Prelude.{◌≡◌, List, map, ℕ, ◌^◌, ◌≤◌, length}
use Rattle.settling.specs.Settling.{Row, ◌∈◌, Accepted, BoardFilling}

-- an accepted board whose rows have cells
pub record Playable (rs : List Row) (d : List ℕ) : Type 0 where
  pub accepted : Accepted rs d
  pub some : (r : Row) → r ∈ rs → 1 ≤ length r.cells

-- e shows a filling of the board: for each cell the domain of the one value taken
pub record ShowsFilling (rs : List Row) (d e : List ℕ) : Type 0 where
  pub taken : List ℕ
  pub filling : BoardFilling rs d taken
  pub shown : e ≡ map (λ v. 2 ^ v) taken
