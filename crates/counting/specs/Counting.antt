-- What counting in a weighted row means, in document 01's words. Definitions only; their laws stand in proofs/ and in the files beside this one.
-- ws are a row's weights, ds its domains, low and high its limits; p is a place in the row, from 0, and v a value.
use Rattle.std.specs.Prelude.{◌≡◌, Bool, true, ◌&&◌, not, ℕ, ◌+◌, ◌*◌, ◌/◌, ◌%◌, ◌^◌, ◌<◌, leb, eqb, length, get_or, take, drop}
use mathlib.Core.List.{List, [], ◌∷◌, map, flat_map}
use Rattle.sizes.specs.Sizes.{values}
use Rattle.listing.specs.Listing.{only, how_many, sum_over, below, by_place}

-- ---- domains

-- the domain d lists v: bit v is set
abbrev pub lists : ℕ → ℕ → Bool
lists d v = eqb (d / 2 ^ v % 2) 1

-- the values that d lists
unfoldable pub listed : ℕ → List ℕ
listed d = only (lists d) (below values)

-- the domain that lists these values
unfoldable pub domain_of : List ℕ → ℕ
domain_of vs = sum_over (λ v. 2 ^ v) vs

-- how many values some domains list
unfoldable pub size : List ℕ → ℕ
size ds = sum_over (λ d. length (listed d)) ds

-- ---- fillings

-- the fillings of a row: one listed value for each cell
unfoldable pub fillings : List ℕ → List (List ℕ)
fillings [] = [] ∷ []
fillings (d ∷ ds) = flat_map (λ v. map (λ f. v ∷ f) (fillings ds)) (listed d)

-- the sum of weight times value
unfoldable pub weigh : List ℕ → List ℕ → ℕ
weigh [] f = 0
weigh (w ∷ ws) [] = 0
weigh (w ∷ ws) (v ∷ f) = w * v + weigh ws f

-- a sum is at least low and at most high
abbrev pub within : ℕ → ℕ → ℕ → Bool
within low high s = leb low s && leb s high

-- a filling is good when its sum is
abbrev pub good : List ℕ → ℕ → ℕ → List ℕ → Bool
good ws low high f = within low high (weigh ws f)

-- ---- counting

-- the total: how many fillings are good
unfoldable pub total : List ℕ → List ℕ → ℕ → ℕ → ℕ
total ws ds low high = how_many (good ws low high) (fillings ds)

-- the count of a place and a value: how many good fillings have that value in that cell
unfoldable pub count : List ℕ → List ℕ → ℕ → ℕ → ℕ → ℕ → ℕ
count ws ds low high p v = how_many (λ f. good ws low high f && eqb (get_or f p 0) v) (fillings ds)

-- the forward number at (i, b): the ways to choose values for the first i cells with sum b
unfoldable pub forward : List ℕ → List ℕ → ℕ → ℕ → ℕ
forward ws ds i b = how_many (λ f. eqb (weigh (take i ws) f) b) (fillings (take i ds))

-- the backward number at (i, b): the ways to choose the remaining cells so that b plus their sum lies from low to high
unfoldable pub backward : List ℕ → List ℕ → ℕ → ℕ → ℕ → ℕ → ℕ
backward ws ds low high i b = how_many (λ f. within low high (b + weigh (drop i ws) f)) (fillings (drop i ds))

-- ---- striking: a value is struck exactly when its count is 0

-- the listed values of the cell at p that are kept, and those that are struck
unfoldable pub kept : List ℕ → List ℕ → ℕ → ℕ → ℕ → List ℕ
kept ws ds low high p = only (λ v. not (eqb (count ws ds low high p v) 0)) (listed (get_or ds p 0))

unfoldable pub gone : List ℕ → List ℕ → ℕ → ℕ → ℕ → List ℕ
gone ws ds low high p = only (λ v. eqb (count ws ds low high p v) 0) (listed (get_or ds p 0))

-- the domains that striking the row leaves
unfoldable pub strike : List ℕ → List ℕ → ℕ → ℕ → List ℕ
strike ws ds low high = by_place (λ p. domain_of (kept ws ds low high p)) (length ds)

-- how many values it strikes
unfoldable pub struck : List ℕ → List ℕ → ℕ → ℕ → ℕ
struck ws ds low high = sum_over (λ p. length (gone ws ds low high p)) (below (length ds))

-- ---- one filling at a time, for laws that speak of some filling or of every filling

-- f takes one listed value for each cell
abbrev pub Filling : List ℕ → List ℕ → Type 0
Filling [] [] = Unit {0}
Filling [] (v ∷ f) = ⊥
Filling (d ∷ ds) [] = ⊥
Filling (d ∷ ds) (v ∷ f) = (v < values) × (lists d v ≡ true) × Filling ds f

-- f is a filling of the row, and good
pub record GoodFilling (ws ds : List ℕ) (low high : ℕ) (f : List ℕ) : Type 0 where
  pub filling : Filling ds f
  pub is_good : good ws low high f ≡ true

-- ds has as many cells as es, and no new value
pub record NoNewValue (ds es : List ℕ) : Type 0 where
  pub cells : length ds ≡ length es
  pub values_there : (p v : ℕ) → v < values → lists (get_or ds p 0) v ≡ true → lists (get_or es p 0) v ≡ true
