-- `advise_board` meets its contract: the domains stored at the front of the room are those that are settled. Assumes nothing.
use Rattle.std.proofs.Common.{◌≡◌, length, take, arith, length-take-le}
use Rattle.advice.specs.StepLaws.{front_settled, front_said}
use Rattle.advice.proofs.advise_board.Goals as goal
use Rattle.advice.proofs.advise_board.Goals.{Start}

-- the front has the board's cells
cells : (c : Start) → length (take c.args.board.cells c.args.room.now) ≡ c.args.board.cells
cells c = length-take-le c.args.board.cells c.args.room.now (omega (arith, c.requires.0.sizes.cells_most, c.requires.1))

pub returns-clause-value : goal.returns-clause-value
returns-clause-value c = front_said c.args.board _ _ (cells (goal.at.returns-clause-value c).Start) c.store.ensures _ c.look.ensures.value

pub returns-clause-room_after : goal.returns-clause-room_after
returns-clause-room_after c = front_settled c.args.board _ _ (cells (goal.at.returns-clause-room_after c).Start) c.store.ensures _ _ c.look.ensures.domains_after
