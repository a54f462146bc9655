-- `ready::ReadyRow::with_places` meets its contract: the loop has gone through the places passed. Assumes nothing.
use mathlib.Core.List.{List}
use Prim.Native.Nat.{ℕ}
use native.Mathlib.Omega.{arith}
use Rattle.choosing.specs.Choosing.{Candidate, of_place, of_row}
use Rattle.choose.specs.Rows.{line_of}
use Rattle.choose.specs.StepLaws.{after_start, after_turn, after_end}
use Rattle.choose.proofs.ready.ReadyRow.with_places.Goals as goal
use Rattle.choose.proofs.ready.ReadyRow.with_places.Goals.{Start}

-- what the row brings, place by place
abbrev brings : Start → ℕ → List Candidate
brings c =
    let s = c.args.self in
    of_place s.row (line_of s) s.domains.now

pub loop-p-init : goal.loop-p-init
loop-p-init c = after_start (brings (goal.at.loop-p-init c).Start) _

pub loop-p-preserved : goal.loop-p-preserved
loop-p-preserved c =
    after_turn (brings (goal.at.loop-p-preserved c).Start) _ c.loop-p.p _ _ c.loop-p.invariant c.with_place-best.ensures

pub returns : goal.returns
unfolding of_row
returns c =
    after_end (brings (goal.at.returns c).Start) _ c.loop-p.p _ _ (omega arith) (omega arith) c.loop-p.invariant
