-- What the whole search leaves in the rooms lent, and an answer read back from what it says. Assumes nothing.
use Rattle.std.specs.Prelude.{◌≡◌, refl, List, ◌++◌, ℕ, length, drop, replicate}
use Rattle.std.proofs.Common.{◌⊎◌, inl, inr, sym, ap, ap₂, ◌∙◌, arith}
use Rattle.std.proofs.lemmas.List.{length-replicate}
use Rattle.sizes.specs.Sizes.{stack_size}
use Rattle.listing.specs.Listing.{onto}
use Rattle.listing.specs.Places.{onto_all, onto_part}
use Rattle.board.specs.declared.Board.{Board}
use Rattle.settling.specs.Boards.{rows_of}
use Rattle.advice.specs.Advising.{domains_of, settled_of}
use Rattle.advice.specs.StepLaws.{left_length}
use Rattle.searching.specs.Searching.{searched, needed, Ending, ends, choices_left}
use Rattle.search.specs.declared.purse.Purse.{Purse}
use Rattle.search.specs.declared.Ending.{Ending as Verdict}
use Rattle.search.specs.declared.Ending.TheVariants as verdict
use Rattle.search.specs.Finishing.{Word, it_is_solved, there_is_none, it_is_spent, word_by, word_of, domains_after, found_on, end_of, emptied}
use Rattle.search.specs.Stack.{shown, Ended, Ran, Finished}

-- in a slice of just the cells the board's domains settled are all that it holds,
pub settled_whole : (board : Board) (d new : List ℕ) → length d ≡ board.cells → new ≡ onto (settled_of board).left d → new ≡ (settled_of board).left
settled_whole board d new n e = e ∙ onto_all (settled_of board).left d (left_length board ∙ sym n)

-- and so what is left where the search found no filling
pub left_settled : (board : Board) (v : Verdict) (d new : List ℕ) → (v ≡ verdict.None) ⊎ (v ≡ verdict.Spent) → length d ≡ board.cells
    → new ≡ onto (settled_of board).left d → new ≡ domains_after (shown v d) (settled_of board).left
left_settled board verdict.Solved d new e n q = elim e [ inl p ↦ cc | inr p ↦ cc ]
left_settled board verdict.None d new e n q = settled_whole board d new n q
left_settled board verdict.Spent d new e n q = settled_whole board d new n q

-- ---- the whole search

word_shown : (v : Verdict) (d : List ℕ) → word_by v ≡ word_of (shown v d)
word_shown verdict.Solved d = refl
word_shown verdict.None d = refl
word_shown verdict.Spent d = refl

pub ran : (board : Board) (choices : ℕ) (purse purse' : Purse) (v : Verdict) (start found left stack stack' : List ℕ) → purse.left ≡ choices → purse.followed ≡ 0
    → start ≡ domains_of board → Ended purse (searched (rows_of board) start) v purse' found → left ≡ domains_after (shown v found) (settled_of board).left
    → length stack ≡ stack_size → stack' ≡ replicate (length stack) 0 → Ran board choices v purse' left stack'
unfolding found_on choices_left needed
ran board choices purse purse' v start found left stack stack' l m e c q n z =
    let same : ends purse.left (searched (rows_of board) start) ≡ end_of board choices = ap₂ (λ (k : ℕ) (d : List ℕ). ends k (searched (rows_of board) d)) l e in
    record {
      word = word_shown v found ∙ ap word_of (c.end ∙ same);
      remains = c.remains ∙ ap₂ (λ (k : ℕ) (d : List ℕ). choices_left k (searched (rows_of board) d)) l e;
      purse_same = omega (arith, c.purse_same);
      domains_are = q ∙ ap (λ (x : Ending). domains_after x (settled_of board).left) (c.end ∙ same);
      stack_is = z ∙ ap (λ (k : ℕ). replicate k 0) n;
    }

-- in the front of the rooms
pub finished : (board : Board) (choices : ℕ) (room stack : List ℕ) (v : Verdict) (purse : Purse) (d s : List ℕ) → length d ≡ board.cells
    → Ran board choices v purse d s → Finished board choices room stack v purse (d ++ drop board.cells room) (s ++ drop stack_size stack)
unfolding emptied
finished board choices room stack v purse d s n r =
    record {
      word = r.word;
      remains = r.remains;
      purse_same = r.purse_same;
      room_is = onto_part d room board.cells n ∙ ap (λ (x : List ℕ). onto x room) r.domains_are;
      stack_is = onto_part s stack stack_size (ap length r.stack_is ∙ length-replicate {A = ℕ} stack_size 0) ∙ ap (λ (x : List ℕ). onto x stack) r.stack_is;
    }

-- ---- what was answered, read back from what is said

abbrev pub verdict_of : Word → Verdict
verdict_of it_is_solved = verdict.Solved
verdict_of there_is_none = verdict.None
verdict_of it_is_spent = verdict.Spent

pub verdict_back : (v : Verdict) → verdict_of (word_by v) ≡ v
verdict_back verdict.Solved = refl
verdict_back verdict.None = refl
verdict_back verdict.Spent = refl
