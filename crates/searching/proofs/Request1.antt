-- Request R-1, whole: what is promised of the search, for every accepted board whose rows have cells. Assumes nothing.
use Rattle.std.specs.Prelude.{◌≡◌, refl, List, ℕ, ◌+◌, ◌≤◌, ◌<◌, ◌^◌, length, get_or}
use Rattle.std.proofs.Common.{sym, ap, ◌∙◌}
use Rattle.std.proofs.Math.Logic.{⊎_elim}
use native.Mathlib.Omega.{arith}
use Rattle.counting.specs.Counting.{NoNewValue}
use Rattle.settling.specs.Settling.{Row, Loose, BoardFilling}
use Rattle.settling.specs.Fillings.{board_filling_within}
use Rattle.searching.specs.Searching.{lowest, Found, nothing, one, followed, more, or_else, searched, needed, Ending, solved, none, spent, ending, ends, choices_left}
use Rattle.searching.specs.Promised.{ShowsFilling, Playable}
use Rattle.searching.proofs.Looks.{look, branch, empty_none, filled_shows, filled_loose, branch_branches}
use Rattle.searching.proofs.Searches.{ends_enough, ends_short, enough_or_few, spent_short, search_rule}

-- what an ending says of the fillings of a board
abbrev Says : List Row → List ℕ → Ending → Type 0
Says rs d (solved e) = ShowsFilling rs d e
Says rs d none = (f : List ℕ) → BoardFilling rs d f → ⊥
Says rs d spent = Unit {0}

-- the filling's value at a cell is its domain's lowest
abbrev Lowest : ℕ → List ℕ → Ending → Type 0
Lowest c d (solved e) = c < length d → get_or e c 0 ≡ 2 ^ lowest (get_or d c 0)
Lowest c d none = Unit {0}
Lowest c d spent = Unit {0}

shows_within : (rs : List Row) (d a e : List ℕ) → NoNewValue a d → ShowsFilling rs a e → ShowsFilling rs d e
shows_within rs d a e w s =
    record {
      taken = s.taken;
      filling = board_filling_within rs a d s.taken w s.filling;
      shown = s.shown;
    }

module _ (rs : List Row) (d : List ℕ) (ok : Playable rs d) where
  said : Says rs d (ending (searched rs d))
  said =
      search_rule rs (λ d o. Says rs d (ending o)) (λ d ok e. empty_none rs d ok e) (λ d f ok e. filled_shows rs d ok f e) either d ok
    where
      either : (d a b : List ℕ) (x y : Found) → Playable rs d → look rs d ≡ branch a b → Says rs a (ending x) → Says rs b (ending y)
          → Says rs d (ending (more 1 (or_else x y)))
      either d a b (nothing m) (nothing n) ok e p q = λ f h. ⊎_elim (p f) (q f) ((branch_branches rs d ok a b e).either f h)
      either d a b (nothing m) (one g n) ok e p q = shows_within rs d b g (branch_branches rs d ok a b e).second_within q
      either d a b (one f m) y ok e p q = shows_within rs d a f (branch_branches rs d ok a b e).first_within p

  says : (n : ℕ) → Says rs d (ends n (searched rs d))
  says n =
      ⊎_elim
      (λ h. rw (ends_enough n (searched rs d) h) said)
      (λ h. rw (ends_short n (searched rs d) h) tt)
      (enough_or_few n (searched rs d))

  -- ---- what an answer means, with any number of choices

  -- Solved comes with a filling,
  pub solved_is_filling : (n : ℕ) (e : List ℕ) → ends n (searched rs d) ≡ solved e → ShowsFilling rs d e
  solved_is_filling n e q = rw q at (says n)

  -- None only where there is none,
  pub none_means_none : (n : ℕ) → ends n (searched rs d) ≡ none → (f : List ℕ) → BoardFilling rs d f → ⊥
  none_means_none n q = rw q at (says n)

  -- and Spent exactly when the search needs more choices than were given.
  pub spent_needs : (n : ℕ) → ends n (searched rs d) ≡ spent → n < needed rs d
  unfolding needed
  spent_needs n q = spent_short n (searched rs d) q

  pub needs_spent : (n : ℕ) → n < needed rs d → ends n (searched rs d) ≡ spent
  unfolding needed
  needs_spent n h = ends_short n (searched rs d) h

  -- ---- If this search needs no more choices than were given, Solved comes exactly when a filling exists and None when none does.

  module _ (n : ℕ) (enough : needed rs d ≤ n) where
    not_spent : ends n (searched rs d) ≡ spent → ⊥
    not_spent q = omega (arith, spent_needs n q)

    pub enough_solved : (f : List ℕ) → BoardFilling rs d f → (e : List ℕ) × (ends n (searched rs d) ≡ solved e)
    enough_solved f g = go (ends n (searched rs d)) refl
      where
        go : (x : Ending) → ends n (searched rs d) ≡ x → (e : List ℕ) × (ends n (searched rs d) ≡ solved e)
        go (solved e) q = (e, q)
        go none q = absurd (none_means_none n q f g)
        go spent q = absurd (not_spent q)

    pub enough_none : ((f : List ℕ) → BoardFilling rs d f → ⊥) → ends n (searched rs d) ≡ none
    enough_none no-filling = go (ends n (searched rs d)) refl
      where
        go : (x : Ending) → ends n (searched rs d) ≡ x → ends n (searched rs d) ≡ none
        go (solved e) q = let s = solved_is_filling n e q in absurd (no-filling s.taken s.filling)
        go none q = q
        go spent q = absurd (not_spent q)

  -- ---- Raising the number never alters a Solved or a None.

  pub raising_keeps : (n m : ℕ) → n ≤ m → (ends n (searched rs d) ≡ spent → ⊥) → ends m (searched rs d) ≡ ends n (searched rs d)
  raising_keeps n m h k =
      ⊎_elim
      (λ l. ends_enough m (searched rs d) (omega arith) ∙ sym (ends_enough n (searched rs d) l))
      (λ l. absurd (k (ends_short n (searched rs d) l)))
      (enough_or_few n (searched rs d))

  -- ---- The number left is the number given less what the search needs, and 0 after Spent.

  pub left_of_given : (n : ℕ) → (ends n (searched rs d) ≡ spent → ⊥) → choices_left n (searched rs d) + needed rs d ≡ n
  unfolding choices_left needed
  left_of_given n k = ⊎_elim (λ l. omega arith) (λ l. absurd (k (ends_short n (searched rs d) l))) (enough_or_few n (searched rs d))

  pub none_left : (n : ℕ) → ends n (searched rs d) ≡ spent → choices_left n (searched rs d) ≡ 0
  unfolding choices_left needed
  none_left n q = let h = spent_needs n q in omega arith

  -- ---- A cell in no row takes its lowest value.

  pub loose_lowest : (n : ℕ) (e : List ℕ) → ends n (searched rs d) ≡ solved e → (c : ℕ) → c < length d → Loose rs c → get_or e c 0 ≡ 2 ^ lowest (get_or d c 0)
  loose_lowest n e q c l free = ⊎_elim enough few (enough_or_few n (searched rs d))
    where
      either : (d a b : List ℕ) (x y : Found) → Playable rs d → look rs d ≡ branch a b → Lowest c a (ending x) → Lowest c b (ending y)
          → Lowest c d (ending (more 1 (or_else x y)))
      either d a b (nothing m) (nothing n) ok e p q = tt
      either d a b (nothing m) (one g n) ok e p q = λ l.
          let s = branch_branches rs d ok a b e in
          q (omega (arith, s.second_within.cells)) ∙ ap (λ (t : ℕ). 2 ^ lowest t) (s.second_loose c free)
      either d a b (one f m) y ok e p q = λ l.
          let s = branch_branches rs d ok a b e in
          p (omega (arith, s.first_within.cells)) ∙ ap (λ (t : ℕ). 2 ^ lowest t) (s.first_loose c free)

      found : Lowest c d (ending (searched rs d))
      found = search_rule rs (λ d o. Lowest c d (ending o)) (λ d ok e. tt) (λ d f ok e l. filled_loose rs d ok f e c l free) either d ok

      enough : followed (searched rs d) ≤ n → get_or e c 0 ≡ 2 ^ lowest (get_or d c 0)
      enough k = let h : Lowest c d (solved e) = rw (sym (ends_enough n (searched rs d) k) ∙ q) at found in h l

      few : n < followed (searched rs d) → get_or e c 0 ≡ 2 ^ lowest (get_or d c 0)
      few k = let z : ◌≡◌ {A = ℕ} 0 1 = cc (ends_short n (searched rs d) k) in absurd (omega arith)
