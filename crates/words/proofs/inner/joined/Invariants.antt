-- `inner::joined` meets its contract: after j turns the first j words are joined. Assumes nothing.
use Rattle.words.specs.Words.{Joined}
use Rattle.words.proofs.inner.joined.Given as goal

abbrev pub invariant-loop-j : goal.invariant-loop-j
invariant-loop-j l = Joined l.initial.set l.t l.p l.set l.j
