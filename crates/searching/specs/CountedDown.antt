-- The search as request R-1 tells it, the choices counted down as it goes; CountedDownLaws has that it ends as Searching says, with the number left that is said there. Definitions only.
use Rattle.std.specs.Prelude.{List, ℕ, zero, suc}
use Rattle.counting.specs.Counting.{size}
use Rattle.settling.specs.Settling.{Row, settle}
use Rattle.choosing.specs.Choosing.{dead, settled, advise, to_lowest, choose}
use Rattle.searching.specs.Searching.{lowests, cut_to, removed, Ending, solved, none, spent}

-- an ending, with the choices that remain
pub data End : Type 0 where
  end_with : Ending → ℕ → End

-- when a branch holds no filling, the search goes on from there with the choices that remain
abbrev pub on_none : End → (ℕ → End) → End
on_none (end_with (solved e) left) next = end_with (solved e) left
on_none (end_with none left) next = next left
on_none (end_with spent left) next = end_with spent left

-- following the advice takes one choice, if one remains
abbrev pub if_one_remains : ℕ → (ℕ → End) → End
if_one_remains zero next = end_with spent 0
if_one_remains (suc left) next = next left

unfoldable pub count_down_in : ℕ → List Row → ℕ → List ℕ → End
count_down_in zero rs left d = end_with none left
count_down_in (suc n) rs left d =
    let s = (settle rs d).left in
    elim (choose to_lowest rs s) [
      | dead ↦ end_with none left
      | settled ↦ end_with (solved (lowests s)) left
      | advise x share ↦
          if_one_remains left (λ m. on_none (count_down_in n rs m (cut_to s x.cell x.value)) (λ k. count_down_in n rs k (removed s x.cell x.value)))
    ]

unfoldable pub count_down : List Row → ℕ → List ℕ → End
count_down rs left d = count_down_in (suc (size d)) rs left d
