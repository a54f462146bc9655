-- `inner::copy` meets its contract: the places passed have what is copied. Assumes nothing.
use Rattle.std.proofs.Common.{◌≡◌, ◌≢◌, ◌<◌, length, refl, arith, rules, below_more, get_or-set_other, get_or-set_same}
use Rattle.std.proofs.lemmas.List.{ext_get_or}
use Rattle.search.proofs.inner.copy.Goals as goal

pub loop-i-preserved : goal.loop-i-preserved
loop-i-preserved c =
    record {
      long = search rules;
      copied = below_more _ _
          (λ k h. let ne : k ≢ c.loop-i.i = omega arith in rw get_or-set_other (c.loop-i.invariant.copied k h))
          (let lt : c.loop-i.i < length c.loop-i.to = omega arith in rw get_or-set_same refl);
    }

pub returns : goal.returns
returns c = ext_get_or 0 _ _ c.loop-i.invariant.long (λ k h. c.loop-i.invariant.copied k (omega arith))
