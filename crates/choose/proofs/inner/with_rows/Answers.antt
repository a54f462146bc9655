-- `inner::with_rows` meets its contract: the loop has gone through the rows passed, and the tables are kept past 5,632 entries. Assumes nothing.
use mathlib.Core.Path.{ap, ◌∙◌}
use mathlib.Core.List.{List}
use Prim.Native.Nat.{ℕ}
use native.Mathlib.Omega.{arith}
use Rattle.board.specs.Board.{row_at}
use Rattle.settling.specs.Boards.{row_of}
use Rattle.choosing.specs.Choosing.{Candidate, of_row}
use Rattle.choosing.specs.Going.{nobody, through}
use Rattle.beat.specs.Beat.{ties_of}
use Rattle.choose.specs.StepLaws.{kept_start, kept_turn, after_start, after_turn, after_end, after_none, rows_candidates, row_in}
use Rattle.choose.proofs.inner.with_rows.Goals as goal
use Rattle.choose.proofs.inner.with_rows.Goals.{Start}

-- what the board brings, row by row
abbrev brings : Start → ℕ → List Candidate
brings c k = of_row k (row_of (row_at c.args.board.lines k)) c.args.domains.now

pub loop-i-init : goal.loop-i-init
loop-i-init c = (after_start (brings (goal.at.loop-i-init c).Start) _, kept_start _)

pub with_row-best-requires : goal.with_row-best-requires
with_row-best-requires c =
    let l = c.loop-i in
    let board = c.args.board in
    (rw c.requires.cells (c.requires.sound.lines l.i (omega arith)), c.requires.consistent _ (row_in board.lines board.rows l.i (omega arith)))

pub loop-i-preserved : goal.loop-i-preserved
loop-i-preserved c =
    let l = c.loop-i in
    let with = c.with_row-best.ensures in (
      after_turn (brings (goal.at.loop-i-preserved c).Start) _ l.i _ _ l.invariant.0 with.after,
      kept_turn _ _ _ l.invariant.1 with.kept,
    )

pub returns-clause-result_value : goal.returns-clause-result_value
returns-clause-result_value c =
    let end = after_end (brings (goal.at.returns-clause-result_value c).Start) _ c.loop-i.i c.args.board.rows _ (omega arith) (omega arith) c.loop-i.invariant.0 in
    let new = c.new-best.ensures in
    after_none _ _ _ _ new.same_ties new.leader end
    ∙ ap (through (ties_of c.args.ties) nobody) (rows_candidates c.args.board.lines c.args.board.rows c.args.domains.now)
