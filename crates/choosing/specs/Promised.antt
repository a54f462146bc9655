-- What a choice promises, case by case, for the floors above. Definitions only.
use Rattle.std.specs.Prelude.{◌≡◌, true, false, ℕ, ◌≤◌, ◌<◌, length, get_or}
use mathlib.Core.List.{List, Memᴰ}
use Rattle.sizes.specs.Sizes.{values}
use Rattle.counting.specs.Counting.{lists, listed}
use Rattle.settling.specs.Settling.{Row, ◌∈◌, row_total, row_count}
use Rattle.fraction.specs.Share.{share_of}
use Rattle.choosing.specs.Choosing.{Candidate, row_at, domain_at, candidates, Ties, beats, Choice, dead, settled, advise}

-- some domain is empty, or none is
abbrev pub SomeEmpty : List ℕ → Type 0
SomeEmpty d = (c : ℕ) × (c < length d) × (get_or d c 0 ≡ 0)

abbrev pub NoneEmpty : List ℕ → Type 0
NoneEmpty d = (c : ℕ) → c < length d → get_or d c 0 ≡ 0 → ⊥

-- each cell that stands in a row has one value
abbrev pub Single : List Row → List ℕ → Type 0
Single rs d = (r : Row) → r ∈ rs → (p : ℕ) → p < length r.cells → length (listed (domain_at r d p)) ≡ 1

-- x is a candidate: its row is there, its cell stands in it and on the board, its value is listed with others, and its numbers are the row's
pub record Open (rs : List Row) (d : List ℕ) (x : Candidate) : Type 0 where
  pub place : ℕ
  pub row_there : x.row < length rs
  pub in_row : place < length (row_at rs x.row).cells
  pub cell_is : x.cell ≡ get_or (row_at rs x.row).cells place 0
  pub cell_there : x.cell < length d
  pub value_small : x.value < values
  pub value_listed : lists (get_or d x.cell 0) x.value ≡ true
  pub several : 2 ≤ length (listed (get_or d x.cell 0))
  pub count_is : x.count ≡ row_count (row_at rs x.row) d place x.value
  pub total_is : x.total ≡ row_total (row_at rs x.row) d
  pub some : 0 < x.total

-- x is one of the candidates, and none of them beats it
pub record Best (o : Ties) (xs : List Candidate) (x : Candidate) : Type 0 where
  pub member : Memᴰ x xs
  pub not_beaten : (y : Candidate) → Memᴰ y xs → beats o y x ≡ false

-- what a choice promises, case by case
abbrev pub Promised : Ties → List Row → List ℕ → Choice → Type 0
Promised o rs d dead = SomeEmpty d
Promised o rs d settled = NoneEmpty d × Single rs d
Promised o rs d (advise x share) = NoneEmpty d × Open rs d x × Best o (candidates rs d) x × (share ≡ share_of x.count x.total)
