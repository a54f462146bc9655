-- No second answer fits the contracts of `rank` and `share`. Assumes nothing.
use mathlib.Core.Path.{◌≡◌, refl, sym, ap, ◌∙◌}
use Prim.Native.Nat.{Ordering}
use Rattle.std.specs.Prelude.{Result, Ok, Err}
use Rattle.std.specs.declared.cmp.Ordering.{Ordering as Ranking}
use Rattle.std.specs.declared.cmp.Ordering.TheVariants.{Less, Equal, Greater}
use Rattle.told.specs.declared.Refusal.{Refusal}
use Rattle.told.specs.Told.{Told, refused, says}
use Rattle.told.specs.Told as plain
use Rattle.told.proofs.ToldLaws.{same_told}
use Rattle.told.specs.Alone.{NoSecondAnswer}
use Rattle.fraction.specs.Rank.{told}
use Rattle.fraction.proofs.rank.Reads as rank
use Rattle.fraction.proofs.rank.Kinds as rank-kinds
use Rattle.fraction.proofs.inner.share.Reads as share
use Rattle.fraction.proofs.inner.share.Kinds as share-kinds

-- an answer's ranking is read back from its word
unworded : Told Ordering → Told Ranking
unworded (refused n) = refused n
unworded (says Ordering.lt) = says Less
unworded (says Ordering.eq) = says Equal
unworded (says Ordering.gt) = says Greater

word_back : (r : Result Ranking Refusal) → plain.told r ≡ unworded (told r)
unfolding unworded
word_back (Ok Less) = refl
word_back (Ok Equal) = refl
word_back (Ok Greater) = refl
word_back (Err e) = refl

pub rank_alone : NoSecondAnswer 0 rank-kinds.ps rank-kinds.r rank.Post (λ κs e. tt {0})
rank_alone κs a x y e f p q = (same_told (word_back x ∙ ap unworded p) (word_back y ∙ ap unworded q), refl)

pub share_alone : NoSecondAnswer 0 share-kinds.ps share-kinds.r share.Post (λ κs e. tt {0})
share_alone κs a x y e f p q = (p ∙ sym q, refl)
