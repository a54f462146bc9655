-- `inner::finish` meets its contract: the fronts of the two rooms are lent and come back new. Assumes nothing.
use mathlib.Core.Path.{◌≡◌}
use native.Mathlib.Omega.{arith}
use lib.ListN.{length, take}
use lib.Seq.{length-take-le}
use Rattle.sizes.specs.Sizes.{stack_size}
use Rattle.search.specs.RoomLaws.{finished}
use Rattle.search.proofs.inner.finish.Goals as goal
use Rattle.search.proofs.inner.finish.Goals.{Start}

-- the fronts are as long as they are to be
cells : (c : Start) → length (take c.args.board.cells c.args.room.now) ≡ c.args.board.cells
cells c = length-take-le c.args.board.cells c.args.room.now (omega (arith, c.requires.0.sizes.cells_most, c.requires.1))

levels : (c : Start) → length (take stack_size c.args.stack.now) ≡ stack_size
levels c = length-take-le stack_size c.args.stack.now c.requires.2

pub run-requires : goal.run-requires
run-requires c =
    (c.requires.0, cells (goal.at.run-requires c).Start, levels (goal.at.run-requires c).Start)

pub returns-clause-finished : goal.returns-clause-finished
returns-clause-finished c =
    let r = c.run in
    let n : length r.new.domains ≡ c.args.board.cells = omega (arith, cells (goal.at.returns-clause-finished c).Start) in
    finished c.args.board c.args.choices c.args.room.now c.args.stack.now _ _ r.new.domains _ n r.ensures.ran
