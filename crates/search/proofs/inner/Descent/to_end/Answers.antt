-- `inner::Descent::to_end` meets its contract: what is still to be tried comes to what the search comes to. Choices left count twice, levels in use
-- once: their sum falls with each step. Assumes nothing.
use Rattle.std.proofs.Common.{refl, ◌∙◌}
use Rattle.settling.specs.Boards.{rows_of}
use Rattle.choose.specs.StepLaws.{kept_start}
use Rattle.search.specs.StackLaws.{start_roomy, start_same, same_trans, kept_after, cleared_after}
use Rattle.search.proofs.inner.Descent.to_end.Goals as goal

pub loop-ending-init : goal.loop-ending-init
loop-ending-init c =
    let s = c.args.self.now in
    record {
      same_board = refl;
      roomy = rw c.requires.0 (start_roomy (rows_of s.board.now) s.domains.now s.stack.now c.requires.1);
      same = rw c.requires.0 (start_same _ _ _ s.stack.now);
      purse_same = refl;
      same_rooms = (refl, refl);
      kept = kept_start _;
    }

pub loop-ending-preserved : goal.loop-ending-preserved
loop-ending-preserved c =
    let i = c.loop-ending.invariant in
    let t = c.in_default.ensures in
    let w = t.stepped in
    record {
      same_board = t.same_board ∙ i.same_board;
      roomy = rw t.same_board w.roomy;
      same = rw t.same_board (same_trans _ _ _ _ _ _ w.same i.same);
      purse_same = w.purse_same ∙ i.purse_same;
      same_rooms = (t.same_rooms.0 ∙ i.same_rooms.0, t.same_rooms.1 ∙ i.same_rooms.1);
      kept = kept_after _ _ _ i.kept t.tables_after;
    }

pub returns-in-Some-clause-tables_after : goal.returns-in-Some-clause-tables_after
returns-in-Some-clause-tables_after c = cleared_after _ _ _ c.loop-ending.invariant.kept c.take_step.ensures.tables_after
