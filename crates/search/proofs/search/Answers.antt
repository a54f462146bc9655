-- `search` meets its contract: a board that was read is sound, and rooms that are not refused are long enough. Assumes nothing.
use Rattle.advice.specs.StepLaws.{said_sound}
use Rattle.search.proofs.search.Goals as goal

pub finish-ended-requires : goal.finish-ended-requires
finish-ended-requires c =
    let long = c.in_ok-lent_refuses.ensures.long in (said_sound _ _ _ c.in-Ok.is c.read-outcome.ensures.read_value, long.2, long.3)
