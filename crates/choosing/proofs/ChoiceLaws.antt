-- The choice keeps what it promises, nothing else does, and how a program comes to it. All over both tie orders. Assumes nothing.
use Rattle.std.specs.Prelude.{◌≡◌, refl, Bool, true, false, ◌||◌, ℕ, zero, suc, ◌+◌, ◌^◌, ◌≤◌, ◌<◌, eqb, ltb, get_or, drop}
use Rattle.std.proofs.Math.Path.{sym, ap}
use Rattle.std.proofs.Common.{◌∙◌, le_of_suc-le-suc, add-one, drop-cons, ltb-true, ltb-false, eqb-true, eq-eqb, ne_eqb}
use mathlib.Core.List.{List, [], ◌∷◌, Memᴰ}
use native.Mathlib.Omega.{arith}
use Rattle.std.proofs.Math.ListN.{length}
use Rattle.std.proofs.Math.Seq.{drop-length}
use Rattle.sizes.specs.Sizes.{values, row_cells}
use Rattle.listing.specs.Sums.{never}
use Rattle.listing.specs.Members.{at_in, in_at}
use Rattle.counting.specs.Counting.{lists, listed}
use Rattle.counting.proofs.Domains.{listed_in, lists_one}
use Rattle.settling.specs.Settling.{Row, ◌∈◌, Accepted, settle, Consistent}
use Rattle.settling.proofs.Demand3.{largest_family, left_accepted}
use Rattle.fraction.specs.Share.{share_of}
use Rattle.choosing.specs.Choosing.{Candidate, Ties, no_row, row_at, domain_at, candidate, candidates, Choice, dead, settled, advise, some_empty, choose}
use Rattle.choosing.specs.Promised.{SomeEmpty, NoneEmpty, Single, Open, Best, Promised}
use Rattle.choosing.specs.Going.{Leader, nobody, leads, through, outcome}
use Rattle.choosing.proofs.GoingLaws.{Finds, finds, best_alone, through_advises}
use Rattle.choosing.proofs.CandidateLaws.{candidate_there, apart, is_open, live, numbers_fit}

-- ---- empty domains

some_empty_lem : (d : List ℕ) → some_empty d ≡ true → SomeEmpty d
unfolding some_empty
some_empty_lem [] e = absurd (never e)
some_empty_lem (x ∷ d) e = go (λ q. some_empty_lem d q) (eqb x 0) refl e
  where
    go : (some_empty d ≡ true → SomeEmpty d) → (t : Bool) → eqb x 0 ≡ t → (t || some_empty d) ≡ true → SomeEmpty (x ∷ d)
    go r true q s = (0, omega arith, eqb-true x 0 q)
    go r false q s = let w = r s in (suc w.0, omega (arith, w.1), w.2)

is_empty : (d : List ℕ) (c : ℕ) → c < length d → get_or d c 0 ≡ 0 → some_empty d ≡ true
unfolding some_empty
is_empty [] c h e = absurd (omega arith)
is_empty (x ∷ d) zero h e = ap (λ (t : Bool). t || some_empty d) (eq-eqb x 0 e)
is_empty (x ∷ d) (suc c) h e = go (eqb x 0) (is_empty d c (le_of_suc-le-suc h) e)
  where
    go : (t : Bool) → some_empty d ≡ true → (t || some_empty d) ≡ true
    go true q = refl
    go false q = q

none_empty : (d : List ℕ) → some_empty d ≡ false → NoneEmpty d
none_empty d e c h z = never (sym e ∙ is_empty d c h z)

-- a loop that looks for one: at one that is empty, past one that is not, and at the end
module _ (d : List ℕ) (i : ℕ) where
  pub empty_here : i < length d → get_or d i 0 ≡ 0 → true ≡ some_empty d
  empty_here h e = sym (is_empty d i h e)

  pub empty_on : i < length d → (get_or d i 0 ≡ 0 → ⊥) → some_empty d ≡ some_empty (drop i d) → some_empty d ≡ some_empty (drop (i + 1) d)
  unfolding some_empty
  empty_on h e q =
      q ∙ ap some_empty (drop-cons d i 0 h) ∙ ap (λ (t : Bool). t || some_empty (drop (suc i) d)) (ne_eqb (get_or d i 0) 0 e) ∙ ap (λ (k : ℕ). some_empty (drop k d)) (sym (add-one i))

  pub empty_end : i ≤ length d → length d ≤ i → some_empty d ≡ some_empty (drop i d) → false ≡ some_empty d
  unfolding some_empty
  empty_end l h q = let e : i ≡ length d = omega arith in sym (q ∙ ap (λ (k : ℕ). some_empty (drop k d)) e ∙ ap some_empty (drop-length d))

-- ---- a domain that lists two values lists one

one_listed : (e : ℕ) → 1 ≤ length (listed e) → (v : ℕ) × (v < values) × (lists e v ≡ true)
one_listed e h = let v = get_or (listed e) 0 0 in let m = listed_in e v (at_in 0 (listed e) 0 h) in (v, m.0, m.1)

-- ---- the choice

pub dies : (o : Ties) (rs : List Row) (d : List ℕ) → some_empty d ≡ true → dead ≡ choose o rs d
unfolding choose
dies o rs d e = rw e

module _ (o : Ties) (rs : List Row) (d : List ℕ) (accepted : Accepted rs d) (consistent : Consistent rs d) where
  -- going through the candidates comes to the choice
  pub by_going : some_empty d ≡ false → choose o rs d ≡ outcome (through o nobody (candidates rs d))
  unfolding choose
  by_going e = rw e (through_advises o (candidates rs d) (live rs d accepted consistent) (apart rs d accepted))

  -- where none is a candidate, each cell in a row has one value
  single : NoneEmpty d → ((x : Candidate) → Memᴰ x (candidates rs d) → ⊥) → Single rs d
  single full none r m p l = go (ltb 1 (length (listed (domain_at r d p)))) refl
    where
      some : 1 ≤ length (listed (domain_at r d p))
      some = lists_one (domain_at r d p) (accepted.domains (get_or r.cells p 0)) (full (get_or r.cells p 0) ((accepted.rows r m).inside p l))

      go : (t : Bool) → ltb 1 (length (listed (domain_at r d p))) ≡ t → length (listed (domain_at r d p)) ≡ 1
      go false e = omega (arith, some, ltb-false 1 (length (listed (domain_at r d p))) e)
      go true e =
          let many = ltb-true 1 (length (listed (domain_at r d p))) e in
          let at = in_at no_row rs r m in
          let v = one_listed (domain_at r d p) some in
          absurd (none (candidate at.0 (row_at rs at.0) d p v.0)
          (candidate_there rs d at.0 p v.0 at.1 (rw at.2 l) v.1 (rw at.2 v.2) (rw at.2 (omega arith))))

  not_single : Single rs d → (x : Candidate) → Open rs d x → ⊥
  not_single one x a =
      let here : length (listed (get_or d x.cell 0)) ≡ 1 = rw a.cell_is (one (row_at rs x.row) (at_in no_row rs x.row a.row_there) a.place a.in_row) in
      omega (arith, a.several)

  -- what it promises it keeps
  pub choice_promises : Promised o rs d (choose o rs d)
  choice_promises = go (some_empty d) refl
    where
      found : NoneEmpty d → (b : Leader) → Finds o (candidates rs d) b → Promised o rs d (outcome b)
      found full nobody none = (full, single full none)
      found full (leads x) best = (full, is_open rs d accepted consistent x best.member, best, refl)

      go : (t : Bool) → some_empty d ≡ t → Promised o rs d (choose o rs d)
      go true e = rw (← dies o rs d e) (some_empty_lem d e)
      go false e = rw (by_going e) (found (none_empty d e) (through o nobody (candidates rs d)) (finds o (candidates rs d) (live rs d accepted consistent)))

  -- and nothing else does
  pub choice_alone : (k l : Choice) → Promised o rs d k → Promised o rs d l → k ≡ l
  choice_alone dead dead p q = refl
  choice_alone dead settled p q = absurd (q.0 p.0 p.1 p.2)
  choice_alone dead (advise x s) p q = absurd (q.0 p.0 p.1 p.2)
  choice_alone settled dead p q = absurd (p.0 q.0 q.1 q.2)
  choice_alone settled settled p q = refl
  choice_alone settled (advise x s) p q = absurd (not_single p.1 x q.1)
  choice_alone (advise x s) dead p q = absurd (p.0 q.0 q.1 q.2)
  choice_alone (advise x s) settled p q = absurd (not_single q.1 x p.1)
  choice_alone (advise x s) (advise y t) p q =
      let same = best_alone o (candidates rs d) (live rs d accepted consistent) (apart rs d accepted) x y p.2 q.2 in
      ap (advise x) p.3 ∙ ap (λ (z : Candidate). advise z (share_of z.count z.total)) same ∙ ap (advise y) (sym q.3)

  -- its share can be had: the numbers are at most 2 to the 50th
  pub leader_fits : ((r : Row) → r ∈ rs → length r.cells ≤ row_cells) → (b : Leader) → b ≡ through o nobody (candidates rs d) → (x : Candidate) → b ≡ leads x
      → (x.count ≤ 2 ^ 50) × (0 < x.total) × (x.total ≤ 2 ^ 50)
  leader_fits most b h x e =
      let best : Best o (candidates rs d) x = rw (sym h ∙ e) at (finds o (candidates rs d) (live rs d accepted consistent)) in
      let a = is_open rs d accepted consistent x best.member in
      let fit = numbers_fit rs d x a (most (row_at rs x.row) (at_in no_row rs x.row a.row_there)) in
      (fit.0, a.some, fit.1)

-- on a board that is settled first, whatever the domains were
pub settled_promises : (o : Ties) (rs : List Row) (d : List ℕ) → Accepted rs d → Promised o rs (settle rs d).left (choose o rs (settle rs d).left)
settled_promises o rs d accepted =
    choice_promises o rs (settle rs d).left (left_accepted rs d accepted) (largest_family rs d accepted).consistent
