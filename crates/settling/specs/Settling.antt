-- What settling a board means, in document 01's words. Definitions only; their laws stand in proofs/ and in the files beside this one.
-- rs are a board's rows, d its domains, one for each cell; c is a cell, p a place in a row, both from 0, and v a value.
use Rattle.std.specs.Prelude.{◌≡◌, Bool, true, false, ℕ, zero, suc, ◌-◌, ◌^◌, ◌≤◌, ◌<◌, ltb, length, get_or, set}
use mathlib.Core.List.{List, [], ◌∷◌, map, Memᴰ, Permᴰ}
use Rattle.told.specs.Told.{when}
use Rattle.sizes.specs.Sizes.{values}
use Rattle.counting.specs.Counting.{lists, size, good, total, count, strike, Filling, GoodFilling, NoNewValue}

-- ---- boards

-- a row of a board: its cells' numbers, their weights, and its limits
pub record Row : Type 0 where
  pub cells : List ℕ
  pub weights : List ℕ
  pub low : ℕ
  pub high : ℕ

-- r is one of the rows
infix 20 ◌∈◌
abbrev pub ◌∈◌ : Row → List Row → Type 0
r ∈ rs = Memᴰ r rs

-- c is one of the cells cs: it stands at some place
abbrev pub Names : List ℕ → ℕ → Type 0
Names cs c = (p : ℕ) × (p < length cs) × (get_or cs p 0 ≡ c)

-- c is a cell in no row
abbrev pub Loose : List Row → ℕ → Type 0
Loose rs c = (r : Row) → r ∈ rs → Names r.cells c → ⊥

-- a board of n cells has those named, and none is named twice
abbrev pub Inside : ℕ → List ℕ → Type 0
Inside n cs = (p : ℕ) → p < length cs → get_or cs p 0 < n

abbrev pub Once : List ℕ → Type 0
Once cs = (p q : ℕ) → p < length cs → q < length cs → get_or cs p 0 ≡ get_or cs q 0 → p ≡ q

-- a row of a board of n cells: a weight for each cell, cells that the board has, and none named twice
pub record Fits (n : ℕ) (r : Row) : Type 0 where
  pub lengths : length r.weights ≡ length r.cells
  pub inside : Inside n r.cells
  pub once : Once r.cells

-- every number is a domain: it has 32 bits
abbrev pub Domains : List ℕ → Type 0
Domains d = (c : ℕ) → get_or d c 0 < 2 ^ values

-- an accepted board
pub record Accepted (rs : List Row) (d : List ℕ) : Type 0 where
  pub rows : (r : Row) → r ∈ rs → Fits (length d) r
  pub domains : Domains d

-- ---- a row over the domains of the board

-- what stands at some cells, and numbers put at some cells
unfoldable pub gather : List ℕ → List ℕ → List ℕ
gather d cs = map (λ c. get_or d c 0) cs

unfoldable pub scatter : List ℕ → List ℕ → List ℕ → List ℕ
scatter [] xs d = d
scatter (c ∷ cs) [] d = d
scatter (c ∷ cs) (x ∷ xs) d = scatter cs xs (set d c x)

-- the row's total, its counts, its good fillings, and what striking it leaves
abbrev pub row_total : Row → List ℕ → ℕ
row_total r d = total r.weights (gather d r.cells) r.low r.high

abbrev pub row_count : Row → List ℕ → ℕ → ℕ → ℕ
row_count r d p v = count r.weights (gather d r.cells) r.low r.high p v

abbrev pub RowFilling : Row → List ℕ → List ℕ → Type 0
RowFilling r d f = GoodFilling r.weights (gather d r.cells) r.low r.high f

abbrev pub row_strike : Row → List ℕ → List ℕ
row_strike r d = strike r.weights (gather d r.cells) r.low r.high

-- ---- settling

-- a visit strikes from one row, over the domains as they are
unfoldable pub visit : Row → List ℕ → List ℕ
visit r d = scatter r.cells (row_strike r d) d

-- a pass visits the rows in order, each over the domains as earlier visits left them
unfoldable pub pass : List Row → List ℕ → List ℕ
pass [] d = d
pass (r ∷ rs) d = pass rs (visit r d)

-- the domains after n passes
unfoldable pub after : List Row → ℕ → List ℕ → List ℕ
after rs zero d = d
after rs (suc n) d = after rs n (pass rs d)

-- a pass strikes some value
abbrev pub strikes : List Row → List ℕ → Bool
strikes rs d = ltb (size (pass rs d)) (size d)

-- passes go on until one strikes nothing, and are counted, the last one included; n is the most that there may be
unfoldable pub passes_at_most : ℕ → List Row → List ℕ → ℕ
passes_at_most zero rs d = 0
passes_at_most (suc n) rs d = suc (when (strikes rs d) (passes_at_most n rs (pass rs d)))

-- the passes made: each but the last strikes a listed value, so one more than the values listed are enough
unfoldable pub passes_made : List Row → List ℕ → ℕ
passes_made rs d = passes_at_most (suc (size d)) rs d

-- what that means: one that strikes nothing comes after others, each of which strikes some value
pub record UntilIdle (rs : List Row) (d : List ℕ) (n : ℕ) : Type 0 where
  pub others : ℕ
  pub counted : n ≡ suc others
  pub striking : (k : ℕ) → k < others → strikes rs (after rs k d) ≡ true
  pub idle : strikes rs (after rs others d) ≡ false

-- what settling answers: the domains left, the passes, and how many listed values are gone
pub record Settled : Type 0 where
  pub left : List ℕ
  pub passes : ℕ
  pub struck : ℕ

unfoldable pub settle : List Row → List ℕ → Settled
settle rs d =
    let left = after rs (passes_made rs d) d in
    record { left = left; passes = passes_made rs d; struck = size d - size left }

-- ---- families of domains

-- every value that d lists at a cell of the row has a count above zero, taken over d
abbrev pub Supported : List ℕ → Row → Type 0
Supported d r = (p v : ℕ) → p < length r.cells → v < values → lists (get_or d (get_or r.cells p 0) 0) v ≡ true → 1 ≤ row_count r d p v

-- in every row through its cell
abbrev pub Consistent : List Row → List ℕ → Type 0
Consistent rs d = (r : Row) → r ∈ rs → Supported d r

-- e is the largest family of domains, within d, in which every value has a count above zero, taken over e, in every row through its cell
pub record Largest (rs : List Row) (d e : List ℕ) : Type 0 where
  pub within : NoNewValue e d
  pub consistent : Consistent rs e
  pub largest : (f : List ℕ) → NoNewValue f d → Consistent rs f → NoNewValue f e

-- f is a filling of the board: one listed value for each cell, good in every row
pub record BoardFilling (rs : List Row) (d f : List ℕ) : Type 0 where
  pub filling : Filling d f
  pub is_good : (r : Row) → r ∈ rs → good r.weights r.low r.high (gather f r.cells) ≡ true

-- ---- two boards

-- a row's pairs of a cell and its weight
abbrev pub pairs : List ℕ → List ℕ → List (ℕ × ℕ)
pairs [] ws = []
pairs (c ∷ cs) [] = []
pairs (c ∷ cs) (w ∷ ws) = (c, w) ∷ pairs cs ws

-- s has r's pairs, in any order, and limits no wider
pub record Tighter (s r : Row) : Type 0 where
  pub same_pairs : Permᴰ (pairs s.cells s.weights) (pairs r.cells r.weights)
  pub low : r.low ≤ s.low
  pub high : s.high ≤ r.high

-- the board of ss and e has the cells of that of rs and d, no new value, and for each of its rows one as tight; perhaps more rows
pub record Stricter (ss : List Row) (e : List ℕ) (rs : List Row) (d : List ℕ) : Type 0 where
  pub domains : NoNewValue e d
  pub rows : (r : Row) → r ∈ rs → (s : Row) × (s ∈ ss) × Tighter s r
