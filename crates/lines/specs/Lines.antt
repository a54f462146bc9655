-- The lines that programs print, as bytes. Definitions only.
use Rattle.std.specs.Prelude.{List, [], ◌++◌, ℕ, zero, suc, ◌-◌, ◌/◌, ◌%◌, ◌^◌, eqb, ltb, cond, codes, decimal, slice_index}
use Rattle.sizes.specs.Sizes.{values}

-- a name and its number
abbrev pub named_text : List ℕ → ℕ → List ℕ
named_text name number = name ++ decimal number

-- the line of a refusal
abbrev pub refused_text : ℕ → List ℕ
refused_text number = named_text (codes "REFUSED ") number ++ codes "\n"

-- how a search ended: its word, how many choices it followed of those given, and how many are left
abbrev pub ended_text : List ℕ → ℕ → ℕ → List ℕ
ended_text word given left = word ++ (named_text (codes " FOLLOWED ") (given - left) ++ named_text (codes " LEFT ") left)

-- a value, if the domain lists it: its bit is set
abbrev pub value_text : ℕ → ℕ → List ℕ
value_text domain value = cond (eqb (domain / 2 ^ value % 2) 1) (named_text (codes " ") value) []

-- the values below n that a domain lists
unfoldable pub below_text : ℕ → ℕ → List ℕ
below_text domain zero = []
below_text domain (suc n) = below_text domain n ++ value_text domain n

-- the values that a domain lists, or NONE where it is empty
abbrev pub values_text : ℕ → List ℕ
values_text domain = cond (eqb domain 0) (codes " NONE") [] ++ below_text domain values

-- a cell's line
abbrev pub cell_text : ℕ → ℕ → List ℕ
cell_text cell domain = named_text (codes "CELL ") cell ++ (codes " VALUES" ++ (values_text domain ++ codes "\n"))

-- the lines of the cells below n that a board of so many cells has
unfoldable pub cells_text : ℕ → List ℕ → ℕ → List ℕ
cells_text cells room zero = []
cells_text cells room (suc n) = cells_text cells room n ++ cond (ltb n cells) (cell_text n (slice_index room n)) []
