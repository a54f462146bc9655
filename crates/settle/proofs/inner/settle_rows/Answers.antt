-- `settle::inner::settle_rows` meets its contract: what is left to settle leaves what settling leaves in all, with the passes and the values tallied.
-- The measure is how many values are listed: a pass that is not the last strikes one. Assumes nothing.
use Rattle.std.proofs.Common.{◌≡◌, ◌∙◌, sym, ap, List, ℕ, ◌+◌, ◌<◌, arith}
use Rattle.counting.specs.Counting.{size}
use Rattle.settling.specs.Settling.{Row, pass, Settled, settle}
use Rattle.settling.specs.Families.{size_most}
use Rattle.settling.proofs.Settles.{settle_last, settle_more, settle_struck}
use Rattle.settle.specs.declared.Tally.{Tally}
use Rattle.settle.specs.Settle.{tally_of, Underway}
use Rattle.settle.proofs.inner.settle_rows.Goals as goal

tally_by : (t : Tally) (s : Settled) → t.passes ≡ s.passes → t.struck ≡ s.struck → t ≡ tally_of s
tally_by t s p k = rw (← p, ← k)

-- a pass from d to e, the last one or not
module _ (rs : List Row) (given d e : List ℕ) (t u : Tally) (w : Underway rs given d t)
    (made : e ≡ pass rs d) (counted : u.passes ≡ t.passes + 1) (tallied : u.struck + size e ≡ t.struck + size d) where
  ended_left : u.struck ≡ t.struck → e ≡ (settle rs given).left
  ended_left h = made ∙ sym (settle_last rs d (omega (arith, ap size made))).0 ∙ sym w.left

  ended_tally : u.struck ≡ t.struck → u ≡ tally_of (settle rs given)
  ended_tally h =
      let last = settle_last rs d (omega (arith, ap size made)) in
      tally_by u (settle rs given) (omega (arith, last.1)) (omega (arith, settle_struck rs given, ap size (ended_left h)))

  onward : size e < size d → Underway rs given e u
  onward h =
      let more = settle_more rs d (omega (arith, ap size made)) in
      record {
        left = w.left ∙ rw made more.0;
        passes = rw made (omega (arith, more.1));
        struck = omega arith;
        most = omega arith;
      }

pub pass_rows-tally-requires : goal.pass_rows-tally-requires
pass_rows-tally-requires c =
    let most = size_most c.args.domains.now in
    let cells = c.requires.0.sizes.cells_most in
    (c.requires.0, omega arith, omega arith, omega arith)

pub returns-then-tally-before-clause-domains_after : goal.returns-then-tally-before-clause-domains_after
returns-then-tally-before-clause-domains_after c =
    let p = c.pass_rows-tally.ensures in
    ended_left _ _ _ _ _ _ c.loop-tally.invariant p.domains_after p.passes_counted p.size_kept (omega arith)

pub returns-then-tally-before-clause-value : goal.returns-then-tally-before-clause-value
returns-then-tally-before-clause-value c =
    let p = c.pass_rows-tally.ensures in
    ended_tally _ _ _ _ _ _ c.loop-tally.invariant p.domains_after p.passes_counted p.size_kept (omega arith)

pub loop-tally-preserved : goal.loop-tally-preserved
loop-tally-preserved c =
    let p = c.pass_rows-tally.ensures in
    onward _ _ _ _ _ _ c.loop-tally.invariant p.domains_after p.passes_counted p.size_kept (omega arith)
