-- Demand 3, whole: what is promised of settling, for every accepted board, each promise proved from the laws in the files beside this one.
-- Assumes nothing.
use Rattle.std.specs.Prelude.{◌≡◌, true, ℕ, ◌+◌, ◌≤◌, ◌<◌, length, get_or}
use Rattle.std.proofs.Common.{ap, ◌∙◌, le_refl, arith}
use mathlib.Core.List.Permᴰ
use mathlib.Core.List.{List, Permᴰ}
use Rattle.sizes.specs.Sizes.{values}
use Rattle.listing.specs.Orders.{order_member}
use Rattle.counting.specs.Counting.{lists, size, NoNewValue}
use Rattle.counting.proofs.Domains.{empty_only}
use Rattle.counting.proofs.Counts.{count_total}
use Rattle.counting.proofs.Fillings.{count→good, total_grows}
use Rattle.settling.specs.Settling.{Row, ◌∈◌, Loose, Domains, Accepted, gather, row_total, row_count, RowFilling, visit, UntilIdle, settle, Consistent, Largest, BoardFilling, Stricter}
use Rattle.settling.specs.Families.{within_self, within_trans, within_both, size_grows}
use Rattle.settling.specs.Cells.{gather_length, gather_within}
use Rattle.settling.specs.Visits.{visit→count, visit_domains}
use Rattle.settling.specs.Passes.{AllOnce}
use Rattle.settling.proofs.Settles.{settled_by, settle_until, settle_out, settle_largest, settle_domains, settle_falls}
use Rattle.settling.specs.Fillings.{board_filling_within, cut, cut_within, cut_consistent, cut_filling}
use Rattle.settling.proofs.Tighter.{tighter_supported}

-- a row with total 0 has no count above zero
no_count : (r : Row) (d : List ℕ) → row_total r d ≡ 0 → (p v : ℕ) → p < length r.cells → v < values → 1 ≤ row_count r d p v → ⊥
no_count r d z p v l k h =
    let some = count_total r.weights (gather d r.cells) r.low r.high p (omega (arith, gather_length d r.cells)) v k in
    omega arith

module _ (rs : List Row) (d : List ℕ) (board : Accepted rs d) where
  once : AllOnce rs
  once r m = (board.rows r m).once

  -- ---- The largest family

  -- The result is the largest family of domains, within those given, in which every value has a count above zero, taken over that family, in every
  -- row through its cell.
  pub largest_family : Largest rs d (settle rs d).left
  largest_family = settle_largest rs once d

  left_domains : Domains (settle rs d).left
  left_domains = settle_domains rs once d board.domains

  -- It is the only largest.
  pub only_largest : (e : List ℕ) → Domains e → Largest rs d e → e ≡ (settle rs d).left
  only_largest e h l =
      let m = largest_family in
      within_both e (settle rs d).left h left_domains (m.largest e l.within l.consistent) (l.largest (settle rs d).left m.within m.consistent)

  -- It is an accepted board again.
  pub left_accepted : Accepted rs (settle rs d).left
  left_accepted = record { rows = λ r m. rw largest_family.within.cells (board.rows r m); domains = left_domains }

  -- ---- Fillings

  -- Each value left is part of some good filling, made from what is left, of every row through its cell.
  pub value_in_filling : (r : Row) → r ∈ rs → (p v : ℕ) → p < length r.cells → v < values
      → lists (get_or (settle rs d).left (get_or r.cells p 0) 0) v ≡ true → (f : List ℕ) × RowFilling r (settle rs d).left f × (get_or f p 0 ≡ v)
  value_in_filling r m p v l k e =
      count→good r.weights (gather (settle rs d).left r.cells) r.low r.high p v (largest_family.consistent r m p v l k e)

  -- No good filling of the whole board is lost, and none is new.
  pub no_filling_lost : (f : List ℕ) → BoardFilling rs d f → BoardFilling rs (settle rs d).left f
  no_filling_lost f g =
      cut_filling rs d f board g (settle rs d).left (largest_family.largest (cut d f) (cut_within d f) (cut_consistent rs d f board g))

  pub no_filling_new : (f : List ℕ) → BoardFilling rs (settle rs d).left f → BoardFilling rs d f
  no_filling_new f g = board_filling_within rs (settle rs d).left d f largest_family.within g

  -- ---- Order

  -- Any order of the rows leaves the same domains.
  pub any_order : (ss : List Row) → Permᴰ rs ss → (settle ss d).left ≡ (settle rs d).left
  any_order ss order =
      let back = Permᴰ.symm order in
      let theirs : AllOnce ss = λ r m. once r (order_member back m) in
      let l = settle_largest ss theirs d in
      only_largest (settle ss d).left (settle_domains ss theirs d board.domains)
      (record {
        within = l.within;
        consistent = λ r m. l.consistent r (order_member order m);
        largest = λ f h s. l.largest f h (λ r m. s r (order_member back m));
      })

  -- ---- Passes and struck values

  -- Passes are counted, the last one included: one that strikes nothing comes after others, each of which strikes some value.
  pub passes_counted : UntilIdle rs d (settle rs d).passes
  passes_counted = settle_until rs d

  -- Struck is the number of listed values gone.
  pub struck_gone : (settle rs d).struck + size (settle rs d).left ≡ size d
  unfolding settle
  struck_gone = omega (arith, size_grows (settle rs d).left d largest_family.within)

  -- The passes number at most one more than the values struck.
  pub passes_most : (settle rs d).passes ≤ 1 + (settle rs d).struck
  passes_most = omega (arith, settle_falls rs once d, struck_gone)

  -- ---- Dead rows and loose cells

  module _ (r : Row) (m : r ∈ rs) where
    -- A row with total 0 empties all its cells: when it is visited,
    pub dead_visit : (e : List ℕ) → Domains e → row_total r e ≡ 0 → (p : ℕ) → p < length r.cells → get_or (visit r e) (get_or r.cells p 0) 0 ≡ 0
    dead_visit e h z p l =
        empty_only _ (visit_domains r (once r m) e h (get_or r.cells p 0)) (λ v k b. no_count r e z p v l k (visit→count r (once r m) e p v l k b))

    -- in the end, where its total is 0 over what is left,
    pub dead_row : row_total r (settle rs d).left ≡ 0 → (p : ℕ) → p < length r.cells → get_or (settle rs d).left (get_or r.cells p 0) 0 ≡ 0
    dead_row z p l =
        empty_only _ (left_domains (get_or r.cells p 0)) (λ v k b. no_count r (settle rs d).left z p v l k (largest_family.consistent r m p v l k b))

    -- and so where it was 0 from the start.
    pub dead_from_start : row_total r d ≡ 0 → (p : ℕ) → p < length r.cells → get_or (settle rs d).left (get_or r.cells p 0) 0 ≡ 0
    dead_from_start z =
        let fewer =
        total_grows r.weights (gather (settle rs d).left r.cells) (gather d r.cells) r.low r.high r.low r.high
        (gather_within (settle rs d).left d r.cells largest_family.within) (le_refl r.low) (le_refl r.high) in
        dead_row (omega arith)

  -- A cell in no row keeps its domain.
  pub loose_cell : (c : ℕ) → Loose rs c → get_or (settle rs d).left c 0 ≡ get_or d c 0
  loose_cell c h = settle_out rs c h d

  -- ---- Settling again

  -- Settling domains that are consistent already changes nothing: one pass, and nothing struck.
  pub consistent_stays : Consistent rs d → settle rs d ≡ record { left = d; passes = 1; struck = 0 }
  consistent_stays s =
      let m = largest_family in
      let whole : (settle rs d).left ≡ d = within_both _ d left_domains board.domains m.within (m.largest d (within_self d) s) in
      let none : (settle rs d).struck ≡ 0 = omega (arith, struck_gone, ap size whole) in
      settled_by (settle rs d) d 1 0 whole (omega (arith, settle_falls rs once d, struck_gone, passes_counted.counted)) none

-- Settled domains are.
pub settled_stays : (rs : List Row) (d : List ℕ) → Accepted rs d → settle rs (settle rs d).left ≡ record { left = (settle rs d).left; passes = 1; struck = 0 }
settled_stays rs d board = consistent_stays rs (settle rs d).left (left_accepted rs d board) (largest_family rs d board).consistent

-- ---- Two boards

-- The second of two boards, with the same cells, no new value, each row of the first over the same cells with the same weights (its pairs in any
-- order) and limits no wider, perhaps more rows, never keeps a value that the first struck.
pub never_kept : (rs : List Row) (d : List ℕ) → Accepted rs d → (ss : List Row) (e : List ℕ) → Accepted ss e → Stricter ss e rs d
    → NoNewValue (settle ss e).left (settle rs d).left
never_kept rs d first ss e second h =
    let l = largest_family ss e second in
    let n : length (settle ss e).left ≡ length d = l.within.cells ∙ h.domains.cells in
    (largest_family rs d first).largest (settle ss e).left (within_trans l.within h.domains) (λ r m.
    let s = h.rows r m in
    tighter_supported s.0 r s.2 (settle ss e).left ((left_accepted ss e second).rows s.0 s.1) (rw n (first.rows r m)) (l.consistent s.0 s.1))
