-- What the comparison of two candidates decides. Assumes nothing.
use Rattle.std.specs.Prelude.{◌≡◌, refl, Bool, true, false, []}
use Rattle.std.proofs.Common.{sym, ◌∙◌}
use Rattle.std.proofs.Math.Path.{ap}
use Prim.Native.Nat.{ℕ, ◌<◌, compare, Ordering}
use Rattle.std.specs.declared.cmp.Ordering.{Ordering as Ranking}
use Rattle.std.specs.declared.cmp.Ordering.TheVariants.{Less, Equal, Greater}
use Rattle.std.specs.Ordering.{nat_cmp, ordering_then, is_gt, MatchOrdering}
use Rattle.std.proofs.lemmas.Cmp.{ranked}
use Rattle.listing.specs.Listing.{keep}
use Rattle.fraction.specs.Rank.{word, order}
use Rattle.fraction.specs.RankLaws.{compare_lt, compare_gt, compare_same}
use Rattle.choosing.specs.Choosing.{Candidate, by_cell, by_value, by_row, by_ties, and_then, is_above, stands, beats}
use Rattle.choosing.specs.Choosing as choosing
use Rattle.choosing.specs.Going as going
use Rattle.choosing.proofs.GoingLaws.{through_none, through_one}

-- ---- the words of an order

pub word_cmp : (a b : ℕ) → word (nat_cmp a b) ≡ compare a b
word_cmp a b = by_cases (nat_cmp a b) (ranked a b (nat_cmp a b) refl)
  where
    by_cases : (o : Ranking) → MatchOrdering o (a < b) (a ≡ b) (b < a) → word o ≡ compare a b
    by_cases Less h = sym (compare_lt a b h)
    by_cases Equal h = sym (compare_same a b h)
    by_cases Greater h = sym (compare_gt a b h)

pub word_then : (o p : Ranking) → word (ordering_then o p) ≡ and_then (word o) (word p)
word_then Less p = refl
word_then Equal p = refl
word_then Greater p = refl

pub word_gt : (o : Ranking) → is_gt o ≡ is_above (word o)
word_gt Less = refl
word_gt Equal = refl
word_gt Greater = refl

then_assoc : (a b c : Ordering) → and_then (and_then a b) c ≡ and_then a (and_then b c)
then_assoc Ordering.lt b c = refl
then_assoc Ordering.eq b c = refl
then_assoc Ordering.gt b c = refl

-- the first that finds a difference decides
pub stands_is : (o : choosing.Ties) (x y : Candidate) → stands o x y ≡ and_then (and_then (and_then (order x.count x.total y.count y.total) (compare y.cell x.cell)) (by_value o x y)) (compare y.row x.row)
unfolding stands by_ties
stands_is o x y = simp then_assoc

pub ruleset comparing = (word_cmp, word_then, word_gt, stands_is)

-- ---- a candidate whose value may be listed

module _ (o : choosing.Ties) (b : going.Leader) (x : Candidate) (t : Bool) where
  pub unlisted : t ≡ false → b ≡ going.through o b (keep t x [])
  unlisted e = through_none o b ∙ ap (λ (s : Bool). going.through o b (keep s x [])) (sym e)

  pub standing : t ≡ true → going.raise o b x ≡ going.through o b (keep t x [])
  standing e = through_one o b x ∙ ap (λ (s : Bool). going.through o b (keep s x [])) (sym e)
