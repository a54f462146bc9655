-- `inner::meets` meets its contract: a sum in common is one in some word and its window. Assumes nothing.
use Rattle.std.proofs.Common.{ℕ, ◌*◌, ◌+◌, ◌/◌, ◌%◌, ◌∙◌, refl, rules}
use Rattle.std.proofs.lemmas.Iterator.{YieldsList-from_range}
use Rattle.std.proofs.lemmas.Iterator.Search.{any_from_yields_List}
use Rattle.words.specs.Words.{word_bits, set_words, any, both}
use Rattle.words.specs.Sets.{words_share}
use Rattle.words.proofs.inner.meets.Goals as goal

pub returns : goal.returns
returns c =
    let a = c.args in
    let share = λ (j : ℕ). any (both a.f.now (word_bits * (a.a + j)) a.g.now (word_bits * (a.p / word_bits + j) + a.p % word_bits)) word_bits in
    any_from_yields_List share _ _ _ c.any.ensures.ran (YieldsList-from_range 0 set_words set_words refl refl) (λ j b q k. search rules) ∙ words_share a.f.now a.a a.g.now a.p set_words
