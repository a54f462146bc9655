-- Where each candidate comes from, and what it has over settled domains: a density, and no other of its triple. Assumes nothing.
use Rattle.std.specs.Prelude.{◌≡◌, refl, Bool, true, false, cond, ℕ, ◌^◌, ◌≤◌, ◌<◌, ltb, length, get_or}
use Rattle.std.proofs.Math.Path.{sym}
use Rattle.std.proofs.Common.{ap, ap₂, ◌∙◌, le_trans, arith, lit<, lit≤, ltb-true, lt-ltb, le-ltb}
use mathlib.Core.List.Memᴰ
use mathlib.Core.List.{List, [], flat_map, Memᴰ}
use Rattle.std.proofs.Math.Nat.{pow-le-pow_right}
use Rattle.sizes.specs.Sizes.{values, row_cells}
use Rattle.listing.specs.Listing.{keep, below}
use Rattle.listing.specs.Members.{in_below, below_small, flat_in, in_flat, map_only, at_in}
use Rattle.counting.specs.Counting.{lists, listed}
use Rattle.counting.proofs.Domains.{listed_in, in_listed}
use Rattle.counting.proofs.Counts.{count_total}
use Rattle.counting.proofs.Tables.{total_le}
use Rattle.settling.specs.Settling.{Row, ◌∈◌, Accepted, gather, row_count, Consistent}
use Rattle.settling.specs.Cells.{gather_length}
use Rattle.choosing.specs.Choosing.{Candidate, no_row, row_at, domain_at, choices, candidate, of_place, of_row, candidates}
use Rattle.choosing.specs.Promised.{Open}
use Rattle.choosing.specs.Going.{Live, Apart}

-- ---- the values to choose from

abbrev several : ℕ → Bool
several e = ltb 1 (length (listed e))

choices_in : (e v : ℕ) → Memᴰ v (choices e) → (v < values) × (lists e v ≡ true) × (2 ≤ length (listed e))
unfolding choices
choices_in e v m = go (several e) refl m
  where
    go : (t : Bool) → several e ≡ t → Memᴰ v (cond t (listed e) []) → (v < values) × (lists e v ≡ true) × (2 ≤ length (listed e))
    go true q k = let r = listed_in e v k in (r.0, r.1, omega (arith, ltb-true 1 (length (listed e)) q))
    go false q k = absurd (Memᴰ.not-nil k)

in_choices : (e v : ℕ) → v < values → lists e v ≡ true → 2 ≤ length (listed e) → Memᴰ v (choices e)
unfolding choices
in_choices e v l q s = rw (lt-ltb 1 (length (listed e)) (omega arith)) (in_listed e v l q)

-- ---- where a candidate comes from

module _ (rs : List Row) (d : List ℕ) where
  record Whence (x : Candidate) : Type 0 where
    i : ℕ
    p : ℕ
    v : ℕ
    row_there : i < length rs
    in_row : p < length (row_at rs i).cells
    value_small : v < values
    value_listed : lists (domain_at (row_at rs i) d p) v ≡ true
    several_left : 2 ≤ length (listed (domain_at (row_at rs i) d p))
    is : x ≡ candidate i (row_at rs i) d p v

  whence : (x : Candidate) → Memᴰ x (candidates rs d) → Whence x
  unfolding candidates of_row of_place
  whence x m =
      let a = flat_in (λ i. of_row i (row_at rs i) d) (below (length rs)) x m in
      let r = row_at rs a.0 in
      let b = flat_in (of_place a.0 r d) (below (length r.cells)) x a.2 in
      let c = Memᴰ.of_map (candidate a.0 r d b.0) (choices (domain_at r d b.0)) b.2 in
      let e = choices_in (domain_at r d b.0) c.0 c.1 in
      record {
        i = a.0;
        p = b.0;
        v = c.0;
        row_there = below_small (length rs) a.0 a.1;
        in_row = below_small (length r.cells) b.0 b.1;
        value_small = e.0;
        value_listed = e.1;
        several_left = e.2;
        is = sym c.2;
      }

  -- every cell in a row with two or more values left, and each value it lists, is there
  pub candidate_there : (i p v : ℕ) → i < length rs → p < length (row_at rs i).cells → v < values → lists (domain_at (row_at rs i) d p) v ≡ true
      → 2 ≤ length (listed (domain_at (row_at rs i) d p)) → Memᴰ (candidate i (row_at rs i) d p v) (candidates rs d)
  unfolding candidates of_row of_place
  candidate_there i p v a b l e s =
      let r = row_at rs i in
      in_flat (λ j. of_row j (row_at rs j) d) (below (length rs)) i _ (in_below (length rs) i a)
      (in_flat (of_place i r d) (below (length r.cells)) p _ (in_below (length r.cells) p b)
      (Memᴰ.map (candidate i r d p) (in_choices (domain_at r d p) v l e s)))

  -- ---- over settled domains

  module _ (accepted : Accepted rs d) where
    -- each triple stands once
    pub apart : Apart (candidates rs d)
    apart x y a b row cell value =
        let w = whence x a in
        let u = whence y b in
        let i : w.i ≡ u.i = sym (ap (λ (z : Candidate). z.row) w.is) ∙ row ∙ ap (λ (z : Candidate). z.row) u.is in
        let v : w.v ≡ u.v = sym (ap (λ (z : Candidate). z.value) w.is) ∙ value ∙ ap (λ (z : Candidate). z.value) u.is in
        let c : get_or (row_at rs w.i).cells w.p 0 ≡ get_or (row_at rs u.i).cells u.p 0 =
        sym (ap (λ (z : Candidate). z.cell) w.is) ∙ cell ∙ ap (λ (z : Candidate). z.cell) u.is in
        let p : w.p ≡ u.p = (accepted.rows (row_at rs u.i) (at_in no_row rs u.i u.row_there)).once w.p u.p (rw i at w.in_row) u.in_row (rw i at c) in
        w.is ∙ ap (λ (j : ℕ). candidate j (row_at rs j) d w.p w.v) i ∙ ap₂ (candidate u.i (row_at rs u.i) d) p v ∙ sym u.is

    module _ (consistent : Consistent rs d) where
      -- each is open
      pub is_open : (x : Candidate) → Memᴰ x (candidates rs d) → Open rs d x
      is_open x m =
          let w = whence x m in
          let r = row_at rs w.i in
          let in-board : r ∈ rs = at_in no_row rs w.i w.row_there in
          let counted : 1 ≤ row_count r d w.p w.v = consistent r in-board w.p w.v w.in_row w.value_small w.value_listed in
          let place : w.p < length (gather d r.cells) = omega (arith, gather_length d r.cells, w.in_row) in
          rw w.is
          record {
            place = w.p;
            row_there = w.row_there;
            in_row = w.in_row;
            cell_is = refl;
            cell_there = (accepted.rows r in-board).inside w.p w.in_row;
            value_small = w.value_small;
            value_listed = w.value_listed;
            several = w.several_left;
            count_is = refl;
            total_is = refl;
            some = le_trans counted (count_total r.weights (gather d r.cells) r.low r.high w.p place w.v w.value_small);
          }

      pub live : Live (candidates rs d)
      live x m = (is_open x m).some

-- ---- a candidate's numbers are at most 2 to the 50th

pub numbers_fit : (rs : List Row) (d : List ℕ) (x : Candidate) → Open rs d x → length (row_at rs x.row).cells ≤ row_cells → (x.count ≤ 2 ^ 50) × (x.total ≤ 2 ^ 50)
numbers_fit rs d x o most =
    let r = row_at rs x.row in
    let same = gather_length d r.cells in
    let fits : values ^ length (gather d r.cells) ≤ 2 ^ 50 = le_trans (pow-le-pow_right (lit< tt) {i = length (gather d r.cells)} {j = row_cells} (omega arith)) (lit≤ tt) in
    let whole : x.total ≤ 2 ^ 50 = rw o.total_is (le_trans (total_le r.weights (gather d r.cells) r.low r.high) fits) in
    let part : x.count ≤ x.total = rw (o.count_is, o.total_is) (count_total r.weights (gather d r.cells) r.low r.high o.place (omega (arith, o.in_row)) x.value o.value_small) in
    (le_trans part whole, whole)

-- ---- as the code goes through the values of a place

module _ (i : ℕ) (r : Row) (d : List ℕ) (p : ℕ) where
  -- what a value brings
  abbrev pub of_value : ℕ → List Candidate
  of_value v = keep (lists (domain_at r d p) v) (candidate i r d p v) []

  pub place_several : 2 ≤ length (listed (domain_at r d p)) → flat_map of_value (below values) ≡ of_place i r d p
  unfolding of_place choices listed
  place_several h = rw (lt-ltb 1 (length (listed (domain_at r d p))) (omega arith)) (sym (map_only (lists (domain_at r d p)) (candidate i r d p) (below values)))

  pub place_few : length (listed (domain_at r d p)) < 2 → [] ≡ of_place i r d p
  unfolding of_place choices
  place_few h = rw (le-ltb 1 (length (listed (domain_at r d p))) (omega arith))
