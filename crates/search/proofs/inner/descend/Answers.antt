-- `inner::descend` meets its contract: the domains can be searched from. Assumes nothing.
use Rattle.std.proofs.Common.{refl, rules}
use Rattle.search.specs.StackLaws.{sound_playable}
use Rattle.search.proofs.inner.descend.Goals as goal

pub to_end-ending-requires : goal.to_end-ending-requires
to_end-ending-requires c = (refl, sound_playable c.args.board.now c.requires.0 c.args.domains.now c.requires.1 (λ i. search rules))
