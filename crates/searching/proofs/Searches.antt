-- Laws of the search: findings joined, the number of choices given, that the search ends by itself, and how it goes on from a list of domains still to be
-- tried. Assumes nothing.
use Rattle.std.specs.Prelude.{◌≡◌, ◌⊎◌}
use Rattle.std.proofs.Math.Path.{refl, ap, ap₂}
use Rattle.std.proofs.Common.{sym, ◌∙◌, inl, inr, ⊎_elim, not-suc-le-zero, le_refl, arith, le-ltb, lt-ltb}
use mathlib.Core.List.{List, [], ◌∷◌}
use Prim.Native.Nat.{ℕ, zero, suc, ◌+◌, ◌≤◌, ◌<◌}
use Rattle.std.proofs.Math.Decide.{dec_lt}
use Rattle.counting.specs.Counting.{size}
use Rattle.settling.specs.Settling.{Row, settle}
use Rattle.choosing.specs.Choosing.{Choice, dead, settled, advise, to_lowest, choose}
use Rattle.searching.specs.Searching.{lowests, cut_to, removed, Found, nothing, one, followed, more, or_else, search_in, searched, spent, ending, ends, choices_left}
use Rattle.searching.specs.Promised.{Playable}
use Rattle.searching.specs.Levels.{search_all}
use Rattle.searching.proofs.Looks.{Look, empty, filled, branch, seen, look, branch_branches}

-- ---- findings joined

more_more : (m n : ℕ) (o : Found) → more m (more n o) ≡ more (m + n) o
more_more m n (nothing k) = ap nothing (omega arith)
more_more m n (one e k) = ap (one e) (omega arith)

more_zero : (o : Found) → more 0 o ≡ o
more_zero (nothing k) = ap nothing (omega arith)
more_zero (one e k) = ap (one e) (omega arith)

more_or_else : (m : ℕ) (a b : Found) → or_else (more m a) b ≡ more m (or_else a b)
more_or_else m (nothing k) b = sym (more_more m k b)
more_or_else m (one e k) b = refl

or_else_assoc : (a b c : Found) → or_else (or_else a b) c ≡ or_else a (or_else b c)
or_else_assoc (nothing m) b c = more_or_else m b c
or_else_assoc (one e m) b c = refl

or_else_nothing : (o : Found) → or_else o (nothing 0) ≡ o
or_else_nothing (nothing m) = ap nothing (omega arith)
or_else_nothing (one e m) = refl

-- ---- the limit

pub followed_more : (m : ℕ) (o : Found) → followed (more m o) ≡ m + followed o
followed_more m (nothing k) = refl
followed_more m (one e k) = refl

pub ending_more : (m : ℕ) (o : Found) → ending (more m o) ≡ ending o
ending_more m (nothing k) = refl
ending_more m (one e k) = refl

ending_spent : (o : Found) → ending o ≡ spent → ⊥
ending_spent (nothing m) e = let z : ◌≡◌ {A = ℕ} 0 1 = cc in omega arith
ending_spent (one f m) e = let z : ◌≡◌ {A = ℕ} 0 1 = cc in omega arith

-- enough choices, and too few
pub ends_enough : (n : ℕ) (o : Found) → followed o ≤ n → ends n o ≡ ending o
unfolding ends
ends_enough n o h = rw (le-ltb _ _ h)

pub ends_short : (n : ℕ) (o : Found) → n < followed o → ends n o ≡ spent
unfolding ends
ends_short n o h = rw (lt-ltb _ _ h)

-- it is one or the other
pub enough_or_few : (n : ℕ) (o : Found) → (followed o ≤ n) ⊎ (n < followed o)
enough_or_few n o = go (dec_lt n (followed o))
  where
    go : Dec (n < followed o) → (followed o ≤ n) ⊎ (n < followed o)
    go (yes l) = inr l
    go (no l) = inl (omega arith)

pub spent_short : (n : ℕ) (o : Found) → ends n o ≡ spent → n < followed o
spent_short n o e = ⊎_elim (λ h. absurd (ending_spent o (sym (ends_enough n o h) ∙ e))) (λ h. h) (enough_or_few n o)

-- m choices followed, and m more needed
pub ends_more : (n m : ℕ) (o : Found) → ends (n + m) (more m o) ≡ ends n o
ends_more n m o =
    ⊎_elim
    (λ h. ends_enough (n + m) (more m o) (omega (arith, followed_more m o)) ∙ ending_more m o ∙ sym (ends_enough n o h))
    (λ h. ends_short (n + m) (more m o) (omega (arith, followed_more m o)) ∙ sym (ends_short n o h))
    (enough_or_few n o)

pub left_more : (n m : ℕ) (o : Found) → choices_left (n + m) (more m o) ≡ choices_left n o
unfolding choices_left
left_more n m o = omega (arith, followed_more m o)

-- a choice that can't be followed
pub ends_broke : (o : Found) → ends 0 (more 1 o) ≡ spent
ends_broke o = ends_short 0 (more 1 o) (omega (arith, followed_more 1 o))

pub left_broke : (o : Found) → choices_left 0 (more 1 o) ≡ 0
unfolding choices_left
left_broke o = omega arith

-- ---- one look

module _ (rs : List Row) where
  -- what comes of it
  abbrev onward : ℕ → Look → Found
  onward k empty = nothing 0
  onward k (filled e) = one e 0
  onward k (branch a b) = more 1 (or_else (search_in k rs a) (search_in k rs b))

  by_look : (k : ℕ) (d : List ℕ) → search_in (suc k) rs d ≡ onward k (look rs d)
  unfolding search_in look
  by_look k d = go (choose to_lowest rs (settle rs d).left) (settle rs d).left
    where
      go : (x : Choice) (s : List ℕ)
          → elim x [
            | dead ↦ nothing 0
            | settled ↦ one (lowests s) 0
            | advise x share ↦ more 1 (or_else (search_in k rs (cut_to s x.cell x.value)) (search_in k rs (removed s x.cell x.value)))
          ] ≡ onward k (seen x s)
      go dead s = refl
      go settled s = refl
      go (advise x share) s = refl

  pub in_empty : (k : ℕ) (d : List ℕ) → look rs d ≡ empty → search_in (suc k) rs d ≡ nothing 0
  in_empty k d e = by_look k d ∙ ap (onward k) e

  pub in_filled : (k : ℕ) (d f : List ℕ) → look rs d ≡ filled f → search_in (suc k) rs d ≡ one f 0
  in_filled k d f e = by_look k d ∙ ap (onward k) e

  pub in_branch : (k : ℕ) (d a b : List ℕ) → look rs d ≡ branch a b → search_in (suc k) rs d ≡ more 1 (or_else (search_in k rs a) (search_in k rs b))
  in_branch k d a b e = by_look k d ∙ ap (onward k) e

  -- ---- the number of settlings is never used up

  enough : (k j : ℕ) (d : List ℕ) → Playable rs d → size d < k → size d < j → search_in k rs d ≡ search_in j rs d
  enough zero j d ok p q = absurd (not-suc-le-zero p)
  enough (suc k) zero d ok p q = absurd (not-suc-le-zero q)
  enough (suc k) (suc j) d ok p q = go (look rs d) refl (λ a. enough k j a)
    where
      go : (x : Look) → look rs d ≡ x → ((a : List ℕ) → Playable rs a → size a < k → size a < j → search_in k rs a ≡ search_in j rs a)
          → search_in (suc k) rs d ≡ search_in (suc j) rs d
      go empty e ih = in_empty k d e ∙ sym (in_empty j d e)
      go (filled f) e ih = in_filled k d f e ∙ sym (in_filled j d f e)
      go (branch a b) e ih =
          let s = branch_branches rs d ok a b e in
          in_branch k d a b e
          ∙ ap₂ (λ x y. more 1 (or_else x y))
          (ih a s.first_playable (omega (arith, s.first_less)) (omega (arith, s.first_less)))
          (ih b s.second_playable (omega (arith, s.second_less)) (omega (arith, s.second_less)))
          ∙ sym (in_branch j d a b e)

  -- a larger number changes nothing
  pub never_used_up : (k : ℕ) (d : List ℕ) → Playable rs d → size d < k → search_in k rs d ≡ searched rs d
  unfolding searched
  never_used_up k d ok h = enough k (suc (size d)) d ok h (le_refl _)

  -- ---- the search, look by look

  pub search_empty : (d : List ℕ) → look rs d ≡ empty → searched rs d ≡ nothing 0
  unfolding searched
  search_empty d e = in_empty (size d) d e

  pub search_filled : (d f : List ℕ) → look rs d ≡ filled f → searched rs d ≡ one f 0
  unfolding searched
  search_filled d f e = in_filled (size d) d f e

  pub search_branch : (d a b : List ℕ) → Playable rs d → look rs d ≡ branch a b → searched rs d ≡ more 1 (or_else (searched rs a) (searched rs b))
  unfolding searched
  search_branch d a b ok e =
      let s = branch_branches rs d ok a b e in
      in_branch (size d) d a b e
      ∙ ap₂ (λ x y. more 1 (or_else x y))
      (never_used_up (size d) a s.first_playable s.first_less)
      (never_used_up (size d) b s.second_playable s.second_less)

  -- what holds of a look holds of the search
  pub search_rule : (P : List ℕ → Found → Type 0)
      → ((d : List ℕ) → Playable rs d → look rs d ≡ empty → P d (nothing 0))
      → ((d f : List ℕ) → Playable rs d → look rs d ≡ filled f → P d (one f 0))
      → ((d a b : List ℕ) (x y : Found) → Playable rs d → look rs d ≡ branch a b → P a x → P b y → P d (more 1 (or_else x y)))
      → (d : List ℕ) → Playable rs d → P d (searched rs d)
  unfolding searched
  search_rule P u v w d ok = deep (suc (size d)) d ok (le_refl _)
    where
      deep : (k : ℕ) (d : List ℕ) → Playable rs d → size d < k → P d (search_in k rs d)
      deep zero d ok h = absurd (not-suc-le-zero h)
      deep (suc k) d ok h = go (look rs d) refl (λ a. deep k a)
        where
          go : (x : Look) → look rs d ≡ x → ((a : List ℕ) → Playable rs a → size a < k → P a (search_in k rs a)) → P d (search_in (suc k) rs d)
          go empty e ih = rw (in_empty k d e) (u d ok e)
          go (filled f) e ih = rw (in_filled k d f e) (v d f ok e)
          go (branch a b) e ih =
              let s = branch_branches rs d ok a b e in
              rw (in_branch k d a b e)
              (w d a b _ _ ok e (ih a s.first_playable (omega (arith, s.first_less))) (ih b s.second_playable (omega (arith, s.second_less))))

-- ---- domains still to be tried, in order

module _ (rs : List Row) where
  pub all_none : search_all rs [] ≡ nothing 0
  unfolding search_all
  all_none = refl

  pub all_one : (d : List ℕ) → search_all rs (d ∷ []) ≡ searched rs d
  unfolding search_all
  all_one d = or_else_nothing (searched rs d)

  pub all_empty : (d : List ℕ) (ds : List (List ℕ)) → look rs d ≡ empty → search_all rs (d ∷ ds) ≡ search_all rs ds
  unfolding search_all
  all_empty d ds e = ap (λ (o : Found). or_else o (search_all rs ds)) (search_empty rs d e) ∙ more_zero (search_all rs ds)

  pub all_filled : (d f : List ℕ) (ds : List (List ℕ)) → look rs d ≡ filled f → search_all rs (d ∷ ds) ≡ one f 0
  unfolding search_all
  all_filled d f ds e = ap (λ (o : Found). or_else o (search_all rs ds)) (search_filled rs d f e)

  pub all_branch : (d a b : List ℕ) (ds : List (List ℕ)) → Playable rs d → look rs d ≡ branch a b → search_all rs (d ∷ ds) ≡ more 1 (search_all rs (a ∷ b ∷ ds))
  unfolding search_all
  all_branch d a b ds ok e =
      ap (λ (o : Found). or_else o (search_all rs ds)) (search_branch rs d a b ok e)
      ∙ more_or_else 1 (or_else (searched rs a) (searched rs b)) (search_all rs ds)
      ∙ ap (more 1) (or_else_assoc (searched rs a) (searched rs b) (search_all rs ds))
