-- What one visit leaves: a value stays exactly when its count is above zero in the row. Assumes nothing.
use Rattle.std.specs.Prelude.{◌≡◌, ◌⊎◌, true, List, ℕ, ◌+◌, ◌≤◌, ◌<◌, length, get_or}
use Rattle.std.proofs.Common.{sym, ap, ◌∙◌, inl, inr, ⊎_elim, le_refl, le_trans, arith}
use Rattle.std.proofs.Math.Decide.{dec_lt}
use Rattle.std.proofs.Math.ListN.{get_or-eq_default}
use Rattle.sizes.specs.Sizes.{values}
use Rattle.counting.specs.Counting.{lists, size, strike, struck, NoNewValue}
use Rattle.listing.specs.Sums.{never}
use Rattle.counting.proofs.Domains.{empty_lists}
use Rattle.counting.proofs.Fillings.{count_grows}
use Rattle.counting.proofs.Strikes.{strike_length, strike_shrinks, strike_lt, counted→kept, kept→counted, struck_size}
use Rattle.settling.specs.Settling.{Row, Names, Once, Fits, Domains, gather, scatter, row_count, row_strike, visit, Supported}
use Rattle.settling.specs.Cells.{gather_length, gather_at, gather_within, named, scatter_length, scatter_out, scatter_at, size_scatter}

-- ---- one visit

pub visit_length : (r : Row) (d : List ℕ) → length (visit r d) ≡ length d
unfolding visit
visit_length r d = scatter_length r.cells (row_strike r d) d

-- a cell that the row does not name keeps its domain
pub visit_out : (r : Row) (d : List ℕ) (c : ℕ) → (Names r.cells c → ⊥) → get_or (visit r d) c 0 ≡ get_or d c 0
unfolding visit
visit_out r d c h = scatter_out r.cells (row_strike r d) d c h

-- only a cell of the board lists values
pub listed_inside : (d : List ℕ) (c v : ℕ) → lists (get_or d c 0) v ≡ true → c < length d
listed_inside d c v e = go (dec_lt c (length d))
  where
    go : Dec (c < length d) → c < length d
    go (yes l) = l
    go (no n) = absurd (never (sym (empty_lists v) ∙ rw (get_or-eq_default d 0 {n = c} (omega arith)) at e))

module _ (r : Row) (once : Once r.cells) (d : List ℕ) where
  in_row : {p : ℕ} → p < length r.cells → p < length (gather d r.cells)
  in_row l = omega (arith, gather_length d r.cells)

  -- one that it names has what striking leaves
  pub visit_at : (p : ℕ) → p < length r.cells → get_or r.cells p 0 < length d → get_or (visit r d) (get_or r.cells p 0) 0 ≡ get_or (row_strike r d) p 0
  unfolding visit
  visit_at p l m =
      scatter_at r.cells (row_strike r d) d once
      (strike_length r.weights (gather d r.cells) r.low r.high ∙ gather_length d r.cells) p l m

  -- so every cell has what striking leaves, or what it had
  visit_cases : (c : ℕ)
      → ((t : Names r.cells c) × (get_or (visit r d) c 0 ≡ get_or (row_strike r d) t.0 0)) ⊎ (get_or (visit r d) c 0 ≡ get_or d c 0)
  visit_cases c = go (named r.cells c) (dec_lt c (length d))
    where
      go : Names r.cells c ⊎ (Names r.cells c → ⊥) → Dec (c < length d)
          → ((t : Names r.cells c) × (get_or (visit r d) c 0 ≡ get_or (row_strike r d) t.0 0)) ⊎ (get_or (visit r d) c 0 ≡ get_or d c 0)
      go (inl t) (yes l) = inl (t, rw t.2 at (visit_at t.0 t.1 (rw t.2 l)))
      go (inl t) (no n) =
          inr (get_or-eq_default (visit r d) 0 {n = c} (omega (arith, visit_length r d)) ∙ sym (get_or-eq_default d 0 {n = c} (omega arith)))
      go (inr n) l = inr (visit_out r d c n)

  -- a value stays exactly when its count is above zero
  pub visit→count : (p v : ℕ) → p < length r.cells → v < values → lists (get_or (visit r d) (get_or r.cells p 0) 0) v ≡ true → 1 ≤ row_count r d p v
  visit→count p v l k h =
      let m : get_or r.cells p 0 < length d = rw (visit_length r d) at (listed_inside (visit r d) (get_or r.cells p 0) v h) in
      kept→counted r.weights (gather d r.cells) r.low r.high p v (in_row l) k (rw (visit_at p l m) at h)

  pub count→visit : (c v : ℕ) → lists (get_or d c 0) v ≡ true → ((p : ℕ) → p < length r.cells → get_or r.cells p 0 ≡ c → 1 ≤ row_count r d p v)
      → lists (get_or (visit r d) c 0) v ≡ true
  count→visit c v e h =
      ⊎_elim
      (λ s. let t = s.0 in rw s.1 (counted→kept r.weights (gather d r.cells) r.low r.high t.0 v (in_row t.1) (h t.0 t.1 t.2)))
      (λ t. rw t e)
      (visit_cases c)

  -- so a visit brings no new value
  pub visit_within : NoNewValue (visit r d) d
  visit_within =
      record {
        cells = visit_length r d;
        values_there = λ c v l b.
            ⊎_elim
            (λ s. let t = s.0 in rw (gather_at d r.cells t.0 t.1, t.2) at (shrinks.values_there t.0 v l (rw s.1 at b)))
            (λ t. rw t at b)
            (visit_cases c);
      }
    where
      shrinks : NoNewValue (row_strike r d) (gather d r.cells)
      shrinks = strike_shrinks r.weights (gather d r.cells) r.low r.high

  -- and leaves domains
  pub visit_domains : Domains d → Domains (visit r d)
  visit_domains h c =
      ⊎_elim (λ s. rw s.1 (strike_lt r.weights (gather d r.cells) r.low r.high s.0.0)) (λ t. rw t (h c)) (visit_cases c)

  -- a visit that strikes nothing
  pub visit_supported : NoNewValue d (visit r d) → Supported d r
  visit_supported h p v l k e = visit→count p v l k (h.values_there (get_or r.cells p 0) v k e)

-- ---- a visit over one family of domains, and over another that has it within

module _ (r : Row) (once : Once r.cells) (d e : List ℕ) (h : NoNewValue d e) where
  count_above : (p v : ℕ) → 1 ≤ row_count r d p v → 1 ≤ row_count r e p v
  count_above p v k =
      le_trans k
      (count_grows r.weights (gather d r.cells) (gather e r.cells) r.low r.high r.low r.high
      (gather_within d e r.cells h) (le_refl r.low) (le_refl r.high) p v)

  pub visit_grows : NoNewValue (visit r d) (visit r e)
  visit_grows =
      record {
        cells = visit_length r d ∙ h.cells ∙ sym (visit_length r e);
        values_there = λ c v l b.
            count→visit r once e c v (h.values_there c v l ((visit_within r once d).values_there c v l b))
            (λ p m q. count_above p v (visit→count r once d p v m l (rw q b)));
      }

  -- what is supported within it stays
  pub visit_keeps : Supported d r → NoNewValue d (visit r e)
  visit_keeps s =
      record {
        cells = h.cells ∙ sym (visit_length r e);
        values_there = λ c v l b. count→visit r once e c v (h.values_there c v l b) (λ p m q. count_above p v (s p v m l (rw q b)));
      }

-- ---- what a visit strikes and what it leaves are together what was listed

pub visit_size : (r : Row) (d : List ℕ) → Fits (length d) r → struck r.weights (gather d r.cells) r.low r.high + size (visit r d) ≡ size d
unfolding visit
visit_size r d f =
    let ds = gather d r.cells in
    omega (
      arith,
      struck_size r.weights ds r.low r.high,
      size_scatter r.cells (row_strike r d) d f.once f.inside (strike_length r.weights ds r.low r.high ∙ gather_length d r.cells),
    )

-- a visit by its steps: domains gathered, struck, and put back
pub visit_steps : (r : Row) (d part left e : List ℕ) (n : ℕ) → Fits (length d) r → part ≡ gather d r.cells
    → left ≡ strike r.weights part r.low r.high → n ≡ struck r.weights part r.low r.high → e ≡ scatter r.cells left d
    → (e ≡ visit r d) × (n + size e ≡ size d)
unfolding visit
visit_steps r d part left e n f p q m s =
    let made : e ≡ visit r d =
    s ∙ ap (λ (xs : List ℕ). scatter r.cells xs d) (q ∙ ap (λ (xs : List ℕ). strike r.weights xs r.low r.high) p) in
    let gone = m ∙ ap (λ (xs : List ℕ). struck r.weights xs r.low r.high) p in
    (made, omega (arith, ap size made, visit_size r d f))
