-- `inner::Layer::next` meets its contract: the set has what the values below v reach. Assumes nothing.
use Rattle.std.proofs.Common.{ℕ, ◌*◌, Bool, ◌||◌, ◌≡◌, ◌∙◌, sym, ap₂, eq-eqb, ne_eqb, arith}
use Rattle.words.specs.Words.{set_words}
use Rattle.words.specs.Bits.{has_zeros, any_zero}
use Rattle.reach.specs.Reach.{reached}
use Rattle.reach.specs.Values.{any_listed, any_unlisted, any_end}
use Rattle.reach.proofs.inner.Layer.next.Goals as goal
use Rattle.reach.proofs.inner.Layer.next.Goals.{then-domain-v-eq1, else-domain-v-eq1}

pub loop-v-init : goal.loop-v-init
loop-v-init c b h = has_zeros set_words b ∙ sym (any_zero _)

pub loop-v-preserved : goal.loop-v-preserved
loop-v-preserved c b h =
    let a = c.args in
    let l = c.loop-v in
    let reach = λ (u : ℕ). reached a.self.table.now a.self.i a.self.way (a.weight * u) b in
    elim c.if-domain-v-eq1.branch [
      | then-domain-v-eq1 w ↦ rw w.set-is (
          w.add_value.ensures b h
          ∙ ap₂ (λ (x : Bool) (n : ℕ). x || reached a.self.table.now a.self.i a.self.way (n * l.v) b) (l.invariant b h) w.from.ensures
          ∙ any_listed a.domain reach l.v (eq-eqb _ _ w.if-domain-v-eq1.true)
          )
      | else-domain-v-eq1 w ↦ rw w.set-is (l.invariant b h ∙ any_unlisted a.domain reach l.v (ne_eqb _ _ w.if-domain-v-eq1.false))
    ]

pub returns : goal.returns
returns c b h =
    let l = c.loop-v in
    let end = c.values_end-v-end in
    let all : l.v ≡ end.result = omega arith in
    l.invariant b h ∙ rw all (any_end c.args.domain _ end.result end.ensures.past end.ensures.most)
