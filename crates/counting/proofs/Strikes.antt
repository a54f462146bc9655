-- What striking a row leaves: a value is kept exactly when its count is above 0, and what is struck and what is left make up what was listed.
-- Assumes nothing.
use Rattle.std.specs.Prelude.{◌≡◌, Bool, ◌&&◌, List, ℕ, ◌+◌, ◌^◌, ◌≤◌, ◌<◌}
use Rattle.std.proofs.Math.Path.{refl, sym, ap}
use Rattle.std.proofs.Common.{◌∙◌, arith, lit<}
use Rattle.std.proofs.Math.Bool.{true, false, not}
use borrow.Author.Tests.{ltb-true, ltb-false, eqb-false, ne_eqb}
use Rattle.std.proofs.Math.Dec.{eqb, ltb}
use Rattle.std.proofs.Math.ListN.{length, get_or, get_or-eq_default}
use Rattle.sizes.specs.Sizes.{values}
use Rattle.listing.specs.Listing.{sum_over, below}
use Rattle.listing.specs.Sums.{never, and_left, and_right, sum_plus, sum_cong_below}
use Rattle.listing.specs.Places.{place_length, place_at, place_only, sum_places}
use Rattle.counting.specs.Counting.{lists, listed, domain_of, size, count, kept, gone, strike, struck, NoNewValue}
use Rattle.counting.proofs.Domains.{lists_only, domain_lt, ones_apart}
use Rattle.counting.proofs.Fillings.{count_listed}

module _ (ws ds : List ℕ) (low high : ℕ) where
  pub strike_length : length (strike ws ds low high) ≡ length ds
  unfolding strike
  strike_length = place_length _ (length ds)

  pub strike_at : (p : ℕ) → p < length ds → get_or (strike ws ds low high) p 0 ≡ domain_of (kept ws ds low high p)
  unfolding strike
  strike_at p l = place_at _ (length ds) p 0 l

  -- the only domains, one for each cell, that list what is kept
  pub strike_only : (es : List ℕ) → length es ≡ length ds → ((p : ℕ) → p < length ds → get_or es p 0 ≡ domain_of (kept ws ds low high p)) → es ≡ strike ws ds low high
  unfolding strike
  strike_only es l h = place_only _ 0 es (length ds) l h

  -- each is a domain
  pub strike_lt : (p : ℕ) → get_or (strike ws ds low high) p 0 < 2 ^ values
  unfolding kept
  strike_lt p = go (ltb p (length ds)) refl
    where
      go : (t : Bool) → ltb p (length ds) ≡ t → get_or (strike ws ds low high) p 0 < 2 ^ values
      go true e = rw (strike_at p (ltb-true _ _ e)) (domain_lt (get_or ds p 0) (λ v. not (eqb (count ws ds low high p v) 0)))
      go false e =
          let out : length ds ≤ p = ltb-false _ _ e in
          rw (get_or-eq_default (strike ws ds low high) 0 {n = p} (omega (arith, strike_length))) (lit< tt)

  -- a listed value is kept exactly when its count is above 0
  pub strike_lists : (p v : ℕ) → p < length ds → v < values
      → lists (get_or (strike ws ds low high) p 0) v ≡ (lists (get_or ds p 0) v && not (eqb (count ws ds low high p v) 0))
  unfolding kept
  strike_lists p v l k =
      ap (λ (d : ℕ). lists d v) (strike_at p l) ∙ lists_only (get_or ds p 0) (λ u. not (eqb (count ws ds low high p u) 0)) v k

  pub counted→kept : (p v : ℕ) → p < length ds → 1 ≤ count ws ds low high p v → lists (get_or (strike ws ds low high) p 0) v ≡ true
  counted→kept p v l h =
      let q = count_listed ws ds low high p v l h in
      strike_lists p v l q.0 ∙ simp (q.1, ne_eqb (count ws ds low high p v) 0 (λ z. omega arith))

  pub kept→counted : (p v : ℕ) → p < length ds → v < values → lists (get_or (strike ws ds low high) p 0) v ≡ true → 1 ≤ count ws ds low high p v
  kept→counted p v l k e =
      some (eqb (count ws ds low high p v) 0) refl (and_right (lists (get_or ds p 0) v) _ (sym (strike_lists p v l k) ∙ e))
    where
      some : (t : Bool) → eqb (count ws ds low high p v) 0 ≡ t → not t ≡ true → 1 ≤ count ws ds low high p v
      some true q z = absurd (never z)
      some false q z = let m = eqb-false (count ws ds low high p v) 0 q in omega arith

  -- striking brings no new value
  pub strike_shrinks : NoNewValue (strike ws ds low high) ds
  strike_shrinks = record { cells = strike_length; values_there = λ p v k e. go p v k e (ltb p (length ds)) refl }
    where
      go : (p v : ℕ) → v < values → lists (get_or (strike ws ds low high) p 0) v ≡ true → (t : Bool) → ltb p (length ds) ≡ t → lists (get_or ds p 0) v ≡ true
      go p v k e true i = and_left (lists (get_or ds p 0) v) _ (sym (strike_lists p v (ltb-true _ _ i) k) ∙ e)
      go p v k e false i =
          let out : length ds ≤ p = ltb-false _ _ i in
          rw (get_or-eq_default ds 0 {n = p} out) (rw (get_or-eq_default (strike ws ds low high) 0 {n = p} (omega (arith, strike_length))) at e)

  -- what is struck and what is left make up what was listed
  pub struck_size : struck ws ds low high + size (strike ws ds low high) ≡ size ds
  unfolding struck kept gone size
  struck_size =
      ap (λ (n : ℕ). struck ws ds low high + n)
      (sym (sum_places 0 (λ d. length (listed d)) (strike ws ds low high))
      ∙ ap (λ (n : ℕ). sum_over (λ p. length (listed (get_or (strike ws ds low high) p 0))) (below n)) strike_length
      ∙ sum_cong_below _ _ (length ds) (λ p l. ap (λ (d : ℕ). length (listed d)) (strike_at p l)))
      ∙ sym (sum_plus _ _ (below (length ds)))
      ∙ sum_cong_below _ _ (length ds) (λ p l. ones_apart (get_or ds p 0) (λ v. eqb (count ws ds low high p v) 0))
      ∙ sum_places 0 (λ d. length (listed d)) ds
