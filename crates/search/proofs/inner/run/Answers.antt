-- `inner::run` meets its contract: the search starts from the board's domains; then the stack room is cleared and the domains are left. Assumes nothing.
use Rattle.std.proofs.Common.{◌≡◌, refl, length, rules}
use Rattle.sizes.specs.Sizes.{stack_size}
use Rattle.advice.specs.StepLaws.{stored_whole}
use Rattle.search.specs.RoomLaws.{ran}
use Rattle.search.proofs.inner.run.Goals as goal

pub returns-clause-ran : goal.returns-clause-ran
returns-clause-ran c =
    let e = c.descend-ended in
    let start = stored_whole c.args.board.now _ _ c.requires.1 c.store.ensures in
    let n : length e.new.stack ≡ stack_size = search rules in
    ran c.args.board.now c.args.choices _ _ _ _ _ _ e.new.stack _ refl refl start e.ensures.comes c.leave.ensures n (c.fill.ensures.after (λ y h. h))
