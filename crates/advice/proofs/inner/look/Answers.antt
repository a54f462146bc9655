-- `inner::look` meets its contract: what is said is said of the domains that were settled. Assumes nothing.
use Rattle.advice.specs.StepLaws.{looked}
use Rattle.advice.proofs.inner.look.Goals as goal

pub returns-clause-value : goal.returns-clause-value
returns-clause-value c =
    looked c.args.board c.args.domains.now _ c.requires.1 _ _ _ c.settle-tally.ensures.value c.settle-tally.ensures.room_after c.choose-advice.ensures.result_value
