-- The lowest value that a domain lists. Assumes nothing.
use Rattle.std.specs.Prelude.{◌≡◌, true, [], ◌∷◌, ◌++◌, ℕ, zero, suc, ◌^◌, ◌<◌, length, get_or}
use Rattle.std.proofs.Common.{sym, ap, ◌∙◌, arith}
use Rattle.std.proofs.Math.Decide.{ℕ_discrete}
use Rattle.std.proofs.Math.ListN.{get_or-append}
use Rattle.sizes.specs.Sizes.{values}
use Rattle.listing.specs.Listing.{only, below}
use Rattle.listing.specs.Members.{no_members, in_below, below_small, only_in, in_only, only_append, at_in, in_at}
use Rattle.counting.specs.Counting.{lists, listed}
use Rattle.counting.proofs.Domains.{listed_in, in_listed, lists_one}
use Rattle.searching.specs.Searching.{lowest}

module _ (e : ℕ) (small : e < 2 ^ values) (some : e ≡ 0 → ⊥) where
  pub lowest_listed : (lowest e < values) × (lists e (lowest e) ≡ true)
  unfolding lowest
  lowest_listed = listed_in e (get_or (listed e) 0 0) (at_in 0 (listed e) 0 (lists_one e small some))

-- the only value is the lowest
pub only_lowest : (e v : ℕ) → length (listed e) ≡ 1 → v < values → lists e v ≡ true → v ≡ lowest e
unfolding lowest
only_lowest e v n l q =
    let at = in_at 0 (listed e) v (in_listed e v l q) in
    let z : at.0 ≡ 0 = omega (arith, at.1) in
    sym at.2 ∙ ap (λ (i : ℕ). get_or (listed e) i 0) z

-- a listed value with none listed below it is the lowest
first_of : (e v n : ℕ) → v < n → lists e v ≡ true → ((u : ℕ) → u < v → lists e u ≡ true → ⊥) → get_or (only (lists e) (below n)) 0 0 ≡ v
unfolding below
first_of e v zero l q least = absurd (omega arith)
first_of e v (suc n) l q least = rw (only_append (lists e) (below n) (n ∷ [])) (go (λ k. first_of e v n k q least) (ℕ_discrete v n))
  where
    go : (v < n → get_or (only (lists e) (below n)) 0 0 ≡ v) → Dec (v ≡ n) → get_or (only (lists e) (below n) ++ only (lists e) (n ∷ [])) 0 0 ≡ v
    go r (yes m) =
        let none : only (lists e) (below n) ≡ [] = no_members (only (lists e) (below n)) (λ u k. let w = only_in (lists e) (below n) u k in least u (omega (arith, below_small n u w.1)) w.0) in
        rw (none, ← m, q)
    go r (no m) =
        let some = in_at 0 (only (lists e) (below n)) v (in_only (lists e) (below n) v q (in_below n v (omega arith))) in
        get_or-append (only (lists e) (below n)) (only (lists e) (n ∷ [])) 0 0 (omega (arith, some.1)) ∙ r (omega arith)

pub lowest_first : (e v : ℕ) → v < values → lists e v ≡ true → ((u : ℕ) → u < v → lists e u ≡ true → ⊥) → lowest e ≡ v
unfolding lowest listed
lowest_first e v l q least = first_of e v values l q least

pub lowest_none : (e : ℕ) → ((u : ℕ) → u < values → lists e u ≡ true → ⊥) → lowest e ≡ 0
unfolding lowest
lowest_none e h = rw (no_members (listed e) (λ u k. let w = listed_in e u k in h u w.0 w.1))
