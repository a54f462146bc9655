-- What finishing a board by search means, in the words of request R-1. Definitions only; their laws stand in proofs/ and in the files beside this one.
-- rs are a board's rows and d its domains, one for each cell; c is a cell and v a value.
use Rattle.std.specs.Prelude.{cond, List, map, ℕ, zero, suc, ◌+◌, ◌-◌, ◌^◌, ltb, get_or, set}
use Rattle.counting.specs.Counting.{listed, size}
use Rattle.settling.specs.Settling.{Row, settle}
use Rattle.choosing.specs.Choosing.{dead, settled, advise, to_lowest, choose}

-- ---- the lowest values

-- the lowest value that a domain lists
unfoldable pub lowest : ℕ → ℕ
lowest e = get_or (listed e) 0 0

-- each domain cut to its lowest value
abbrev pub lowests : List ℕ → List ℕ
lowests d = map (λ e. 2 ^ lowest e) d

-- ---- what is found

-- no filling, or one; and how many choices were followed
pub data Found : Type 0 where
  nothing : ℕ → Found
  one : List ℕ → ℕ → Found

abbrev pub followed : Found → ℕ
followed (nothing m) = m
followed (one e m) = m

-- n choices more
abbrev pub more : ℕ → Found → Found
more n (nothing m) = nothing (n + m)
more n (one e m) = one e (n + m)

-- the first, and where it holds no filling the second, the choices of both counted
abbrev pub or_else : Found → Found → Found
or_else (nothing m) b = more m b
or_else (one e m) b = one e m

-- ---- the search, with as many choices as it needs

-- c cut to v, and v removed from c
abbrev pub cut_to : List ℕ → ℕ → ℕ → List ℕ
cut_to d c v = set d c (2 ^ v)

abbrev pub removed : List ℕ → ℕ → ℕ → List ℕ
removed d c v = set d c (get_or d c 0 - 2 ^ v)

-- It settles. Dead is no filling here. Settled is a filling, in which a cell in no row takes its lowest value. Advise is one choice: the advice is
-- followed, and when that branch holds no filling the advised value is removed at that level. n is the most settlings, one below another.
unfoldable pub search_in : ℕ → List Row → List ℕ → Found
search_in zero rs d = nothing 0
search_in (suc n) rs d =
    let s = (settle rs d).left in
    elim (choose to_lowest rs s) [
      | dead ↦ nothing 0
      | settled ↦ one (lowests s) 0
      | advise x share ↦ more 1 (or_else (search_in n rs (cut_to s x.cell x.value)) (search_in n rs (removed s x.cell x.value)))
    ]

-- each branch lists fewer values, so one more than the values listed are enough: `never_used_up`
unfoldable pub searched : List Row → List ℕ → Found
searched rs d = search_in (suc (size d)) rs d

-- what this search needs: the choices that it follows
unfoldable pub needed : List Row → List ℕ → ℕ
needed rs d = followed (searched rs d)

-- ---- the search with n choices given

pub data Ending : Type 0 where
  solved : List ℕ → Ending
  none : Ending
  spent : Ending

abbrev pub ending : Found → Ending
ending (nothing m) = none
ending (one e m) = solved e

-- Spent where fewer were given than it needs, else what it found; and the choices left
unfoldable pub ends : ℕ → Found → Ending
ends n o = cond (ltb n (followed o)) spent (ending o)

unfoldable pub choices_left : ℕ → Found → ℕ
choices_left n o = n - followed o
