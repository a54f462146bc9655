-- `ready::ReadyRow::with_place` meets its contract: a place with too few values brings nothing; else the loop has gone through the values passed. Assumes nothing.
use mathlib.Core.List.{List}
use Prim.Native.Nat.{ℕ}
use native.Mathlib.Omega.{arith}
use Rattle.choosing.specs.Choosing.{Candidate}
use Rattle.choosing.proofs.CandidateLaws.{of_value}
use Rattle.settling.specs.Settling.{Row}
use Rattle.choose.specs.Rows.{line_of}
use Rattle.choose.specs.StepLaws.{after_start, after_turn, after_end, few_after, many_after, candidate_live, candidate_brings}
use Rattle.choose.proofs.ready.ReadyRow.with_place.Goals as goal
use Rattle.choose.proofs.ready.ReadyRow.with_place.Goals.{Start}

-- the row, and what the place brings, value by value
abbrev row : Start → Row
row c = line_of c.args.self

abbrev brings : Start → ℕ → List Candidate
brings c = of_value c.args.self.row (row c) c.args.self.domains.now c.args.p

pub returns-then-values_in-lt2 : goal.returns-then-values_in-lt2
returns-then-values_in-lt2 c = few_after _ _ _ _ _ (omega arith)

pub loop-v-init : goal.loop-v-init
loop-v-init c = after_start (brings (goal.at.loop-v-init c).Start) _

pub with_listed-best-requires : goal.with_listed-best-requires
with_listed-best-requires c =
    let s = (goal.at.with_listed-best-requires c).Start in
    candidate_live _ _ (row s) _ _ _ c.candidate.ensures c.args.self.ready.supported c.requires (omega arith)

pub loop-v-preserved : goal.loop-v-preserved
loop-v-preserved c =
    let s = (goal.at.loop-v-preserved c).Start in
    after_turn (brings s) _ c.loop-v.v _ _ c.loop-v.invariant (candidate_brings _ _ (row s) _ _ _ c.candidate.ensures _ _ c.with_listed-best.ensures)

pub returns : goal.returns
returns c =
    let s = (goal.at.returns c).Start in
    many_after _ _ (row s) _ _ (omega arith) _ (after_end (brings s) _ c.loop-v.v _ _ (omega arith) (omega arith) c.loop-v.invariant)
