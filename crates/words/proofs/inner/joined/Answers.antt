-- `inner::joined` meets its contract: after j turns the first j words are joined. Assumes nothing.
use Rattle.std.proofs.Common.{◌≡◌, arith, rules}
use Rattle.words.specs.Words.{set_words}
use Rattle.words.specs.Sets.{joined_none, joined_more, joined_all}
use Rattle.words.proofs.inner.joined.Goals as goal

pub loop-j-init : goal.loop-j-init
loop-j-init c = joined_none _ _ _ (search rules)

pub loop-j-preserved : goal.loop-j-preserved
loop-j-preserved c = joined_more _ _ _ _ _ _ (omega arith) c.window.ensures c.loop-j.invariant

pub returns : goal.returns
returns c =
    let l = c.loop-j in
    let e : l.j ≡ set_words = omega arith in
    joined_all _ _ _ _ (rw e at l.invariant)
