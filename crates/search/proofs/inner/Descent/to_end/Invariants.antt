-- `inner::Descent::to_end` meets its contract: what is still to be tried comes to what the search comes to. Choices left count twice, levels in use
-- once: their sum falls with each step. Assumes nothing.
use Rattle.std.proofs.Common.{◌≡◌, ◌+◌, ◌*◌, length}
use Rattle.settling.specs.Boards.{rows_of}
use Rattle.choose.specs.Steps.{Kept}
use Rattle.searching.specs.Searching.{searched}
use Rattle.searching.specs.Levels.{search_all}
use Rattle.search.specs.Stack.{Roomy, trying, Same}
use Rattle.search.proofs.inner.Descent.to_end.Given as goal

abbrev pub invariant-loop-ending : goal.invariant-loop-ending
invariant-loop-ending l =
    let s = l.self in
    let first = l.initial.self in
    record {
      same_board : s.board ≡ first.board;
      roomy : Roomy (rows_of s.board.now) (length s.domains.now) (trying s.levels s.domains.now s.stack.now);
      same : Same s.purse.left (search_all (rows_of s.board.now) (trying s.levels s.domains.now s.stack.now)) first.purse.left (searched (rows_of first.board.now) first.domains.now);
      purse_same : s.purse.left + s.purse.followed ≡ first.purse.left + first.purse.followed;
      same_rooms : (s.domains.ghost_name ≡ first.domains.ghost_name) × (s.stack.ghost_name ≡ first.stack.ghost_name);
      kept : Kept l.initial.tables l.tables;
    }

abbrev pub decreases-loop-ending : goal.decreases-loop-ending
decreases-loop-ending l = 2 * l.self.purse.left + l.self.levels
