-- How a program finds the candidate that nothing beats: it goes through them and keeps the better of two. Definitions only.
use Rattle.std.specs.Prelude.{◌≡◌, cond, ◌<◌}
use mathlib.Core.List.{List, [], ◌∷◌, Memᴰ}
use Rattle.fraction.specs.Share.{share_of}
use Rattle.choosing.specs.Choosing.{Candidate, Ties, beats, Choice, settled, advise}

-- the best so far, if there were any
pub data Leader : Type 0 where
  nobody : Leader
  leads : Candidate → Leader

-- with one candidate more, and with a list of them
abbrev pub raise : Ties → Leader → Candidate → Leader
raise o nobody x = leads x
raise o (leads y) x = leads (cond (beats o x y) x y)

unfoldable pub through : Ties → Leader → List Candidate → Leader
through o b [] = b
through o b (x ∷ xs) = through o (raise o b x) xs

-- the advice that it comes to
abbrev pub outcome : Leader → Choice
outcome nobody = settled
outcome (leads x) = advise x (share_of x.count x.total)

-- each has a density, and each row, cell and value stands once
abbrev pub Live : List Candidate → Type 0
Live xs = (x : Candidate) → Memᴰ x xs → 0 < x.total

abbrev pub Apart : List Candidate → Type 0
Apart xs = (x y : Candidate) → Memᴰ x xs → Memᴰ y xs → x.row ≡ y.row → x.cell ≡ y.cell → x.value ≡ y.value → x ≡ y
