use Rattle.std.proofs.Common.{◌≡◌, ◌≢◌, ◌<◌, length, arith, rules, sym, ◌∙◌, below_more, get_or-set_other, get_or-set_same}
use Rattle.std.proofs.lemmas.List.{ext_get_or, get_or-map, length-map}
use Rattle.report.specs.Reporting.{domain_named, domains_named}
use Rattle.report.proofs.domains_of.Goals as goal

pub loop-k-preserved : goal.loop-k-preserved
loop-k-preserved c =
    record {
      long = search rules;
      named = below_more _ _
          (λ k h. let ne : k ≢ c.loop-k.k = omega arith in rw get_or-set_other (c.loop-k.invariant.named k h))
          (let lt : c.loop-k.k < length c.loop-k.domains = omega arith in rw get_or-set_same c.domain_of.ensures);
    }

pub returns : goal.returns
unfolding domains_named
returns c =
    let long : length c.args.names ≡ length c.loop-k.domains = search rules in
    ext_get_or 0 _ _ (sym long ∙ sym (length-map _ _))
    (λ i h. c.loop-k.invariant.named i (omega arith) ∙ sym (get_or-map (domain_named c.args.room) c.args.names i 0 0 (omega arith)))
