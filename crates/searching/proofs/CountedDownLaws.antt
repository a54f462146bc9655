-- Counting the choices down as the search goes comes to the ending and the choices that Searching says. Assumes nothing.
use Rattle.std.specs.Prelude.{◌≡◌, refl, List, ℕ, zero, suc, ◌+◌, ◌-◌, ◌≤◌, ◌<◌}
use Rattle.std.proofs.Common.{sym, ap, ap₂, ◌∙◌, ⊎_elim, add-one, arith}
use Rattle.counting.specs.Counting.{size}
use Rattle.settling.specs.Settling.{Row, settle}
use Rattle.choosing.specs.Choosing.{Choice, dead, settled, advise, to_lowest, choose}
use Rattle.searching.specs.Searching.{lowests, cut_to, removed, Found, nothing, one, followed, more, or_else, search_in, searched, solved, none, spent, ends, choices_left}
use Rattle.searching.specs.CountedDown.{End, end_with, on_none, if_one_remains, count_down_in, count_down}
use Rattle.searching.proofs.Searches.{followed_more, ends_enough, ends_short, enough_or_few, ends_more, left_more, ends_broke, left_broke}

abbrev end_of : ℕ → Found → End
end_of n o = end_with (ends n o) (choices_left n o)

-- m choices followed, and m more needed
paid : (n m : ℕ) (o : Found) → end_of (n + m) (more m o) ≡ end_of n o
paid n m o = ap₂ end_with (ends_more n m o) (left_more n m o)

broke : (o : Found) → end_of 0 (more 1 o) ≡ end_with spent 0
broke o = ap₂ end_with (ends_broke o) (left_broke o)

left_is : (n : ℕ) (o : Found) → choices_left n o ≡ n - followed o
unfolding choices_left
left_is n o = refl

left_few : (n m : ℕ) (b : Found) → n < m → choices_left n (nothing m) ≡ choices_left n (more m b)
unfolding choices_left
left_few n m b h = omega (arith, followed_more m b)

end_nothing : (n : ℕ) → end_of n (nothing 0) ≡ end_with none n
unfolding choices_left
end_nothing n = ap₂ end_with (ends_enough n (nothing 0) (omega arith)) (omega arith)

end_one : (n : ℕ) (e : List ℕ) → end_of n (one e 0) ≡ end_with (solved e) n
unfolding choices_left
end_one n e = ap₂ end_with (ends_enough n (one e 0) (omega arith)) (omega arith)

-- ---- findings joined

on_none_lem : (x y : End) (f g : ℕ → End) → x ≡ y → ((m : ℕ) → f m ≡ g m) → on_none x f ≡ on_none y g
on_none_lem x y f g e h = ap (λ (z : End). on_none z f) e ∙ each y
  where
    each : (z : End) → on_none z f ≡ on_none z g
    each (end_with (solved e) m) = refl
    each (end_with none m) = h m
    each (end_with spent m) = refl

-- two after one another
joined : (n : ℕ) (a b : Found) → on_none (end_of n a) (λ k. end_of k b) ≡ end_of n (or_else a b)
joined n (one e m) b =
    ⊎_elim (λ h. rw (ends_enough n (one e m) h)) (λ h. rw (ends_short n (one e m) h)) (enough_or_few n (one e m))
joined n (nothing m) b = ⊎_elim enough few (enough_or_few n (nothing m))
  where
    enough : m ≤ n → on_none (end_of n (nothing m)) (λ k. end_of k b) ≡ end_of n (more m b)
    enough h =
        let s : n - m + m ≡ n = omega arith in
        rw (ends_enough n (nothing m) h) (ap (λ (k : ℕ). end_of k b) (left_is n (nothing m)) ∙ sym (paid (n - m) m b) ∙ ap (λ (k : ℕ). end_of k (more m b)) s)

    few : n < m → on_none (end_of n (nothing m)) (λ k. end_of k b) ≡ end_of n (more m b)
    few h =
        rw (ends_short n (nothing m) h) (ap₂ end_with (sym (ends_short n (more m b) (omega (arith, followed_more m b)))) (left_few n m b h))

-- ---- the search

counted_in : (k : ℕ) (rs : List Row) (n : ℕ) (d : List ℕ) → count_down_in k rs n d ≡ end_of n (search_in k rs d)
unfolding count_down_in search_in
counted_in zero rs n d = sym (end_nothing n)
counted_in (suc k) rs n d = go (choose to_lowest rs (settle rs d).left) (settle rs d).left n (λ m a. counted_in k rs m a)
  where
    go : (x : Choice) (s : List ℕ) (n : ℕ) → ((m : ℕ) (a : List ℕ) → count_down_in k rs m a ≡ end_of m (search_in k rs a))
        → elim x [
          | dead ↦ end_with none n
          | settled ↦ end_with (solved (lowests s)) n
          | advise x share ↦ if_one_remains n (λ m. on_none (count_down_in k rs m (cut_to s x.cell x.value)) (λ j. count_down_in k rs j (removed s x.cell x.value)))
        ] ≡ end_of n (elim x [
          | dead ↦ nothing 0
          | settled ↦ one (lowests s) 0
          | advise x share ↦ more 1 (or_else (search_in k rs (cut_to s x.cell x.value)) (search_in k rs (removed s x.cell x.value)))
        ])
    go dead s n ih = sym (end_nothing n)
    go settled s n ih = sym (end_one n (lowests s))
    go (advise x share) s zero ih = sym (broke (or_else (search_in k rs (cut_to s x.cell x.value)) (search_in k rs (removed s x.cell x.value))))
    go (advise x share) s (suc n) ih =
        let a = cut_to s x.cell x.value in
        let b = removed s x.cell x.value in
        on_none_lem (count_down_in k rs n a) (end_of n (search_in k rs a)) (λ m. count_down_in k rs m b) (λ m. end_of m (search_in k rs b)) (ih n a) (λ m. ih m b)
        ∙ joined n (search_in k rs a) (search_in k rs b)
        ∙ sym (ap (λ (m : ℕ). end_of m (more 1 (or_else (search_in k rs a) (search_in k rs b)))) (sym (add-one n)) ∙ paid n 1 (or_else (search_in k rs a) (search_in k rs b)))

-- The choices counted down as the search goes: it ends as Searching says, with the choices that remain there.
pub counted_down : (rs : List Row) (n : ℕ) (d : List ℕ) → count_down rs n d ≡ end_with (ends n (searched rs d)) (choices_left n (searched rs d))
unfolding count_down searched
counted_down rs n d = counted_in (suc (size d)) rs n d
