-- Fillings of the board from domains within others; and a filling as a family of one value for each cell: it is consistent, so it is within every
-- largest family. Assumes nothing.
use Rattle.std.specs.Prelude.{◌≡◌, refl, true, ◌&&◌, List, ℕ, ◌<◌, eqb, length, get_or, set}
use Rattle.std.proofs.Common.{sym, ◌∙◌, arith, eqb-true, eq-eqb, length-set, get_or-set_same, get_or-set_other}
use Rattle.std.proofs.Math.Path.{ap}
use Rattle.std.proofs.Math.Decide.{ℕ_discrete}
use Rattle.sizes.specs.Sizes.{values}
use Rattle.listing.specs.Listing.{only, by_place}
use Rattle.listing.specs.Sums.{and_left, and_right}
use Rattle.listing.specs.Places.{place_length, place_at}
use Rattle.counting.specs.Counting.{lists, listed, domain_of, NoNewValue}
use Rattle.counting.proofs.Domains.{lists_only}
use Rattle.counting.proofs.Over.{filling_length, filling_at, filling_by}
use Rattle.counting.proofs.Fillings.{good→count}
use Rattle.settling.specs.Settling.{Row, ◌∈◌, Accepted, gather, RowFilling, Consistent, BoardFilling}
use Rattle.settling.specs.Cells.{gather_length, gather_at}
use Rattle.settling.specs.Visits.{listed_inside}
use Rattle.settling.specs.Families.{filling_within}

-- a filling made from domains within others is one of the others
pub board_filling_within : (rs : List Row) (d e f : List ℕ) → NoNewValue d e → BoardFilling rs d f → BoardFilling rs e f
board_filling_within rs d e f w g = record { filling = filling_within d e w f g.filling; is_good = g.is_good }

-- one whose value at c the domain x lists is a filling with x there
pub filling_set : (rs : List Row) (d f : List ℕ) (c x : ℕ) → c < length d → BoardFilling rs d f → lists x (get_or f c 0) ≡ true → BoardFilling rs (set d c x) f
filling_set rs d f c x l g q =
    record {
      filling = filling_by (set d c x) f (filling_length d f g.filling ∙ sym (length-set d c x))
          (λ p k. let h = filling_at d f g.filling p (omega (arith, length-set d c x)) in (h.0, go p (ℕ_discrete p c) h.1));
      is_good = g.is_good;
    }
  where
    go : (p : ℕ) → Dec (p ≡ c) → lists (get_or d p 0) (get_or f p 0) ≡ true → lists (get_or (set d c x) p 0) (get_or f p 0) ≡ true
    go p (yes e) h = rw (e, get_or-set_same d c x 0 l) q
    go p (no n) h = rw (get_or-set_other d c p x 0 n) h

-- the domains d cut to the values f
pub cut : List ℕ → List ℕ → List ℕ
cut d f = by_place (λ c. domain_of (only (eqb (get_or f c 0)) (listed (get_or d c 0)))) (length d)

module _ (d f : List ℕ) where
  cut_length : length (cut d f) ≡ length d
  unfolding cut
  cut_length = place_length _ (length d)

  cut_lists : (c v : ℕ) → c < length d → v < values → lists (get_or (cut d f) c 0) v ≡ (lists (get_or d c 0) v && eqb (get_or f c 0) v)
  unfolding cut
  cut_lists c v l k = ap (λ (x : ℕ). lists x v) (place_at _ (length d) c 0 l) ∙ lists_only (get_or d c 0) (eqb (get_or f c 0)) v k

  pub cut_within : NoNewValue (cut d f) d
  cut_within =
      record {
        cells = cut_length;
        values_there = λ c v k e.
            let l : c < length d = rw cut_length at (listed_inside (cut d f) c v e) in
            and_left (lists (get_or d c 0) v) _ (sym (cut_lists c v l k) ∙ e);
      }

module _ (rs : List Row) (d f : List ℕ) (board : Accepted rs d) (g : BoardFilling rs d f) where
  -- it has just the filling's value in each cell
  cut_has : (c : ℕ) → c < length d → (get_or f c 0 < values) × (lists (get_or (cut d f) c 0) (get_or f c 0) ≡ true)
  cut_has c l =
      let h = filling_at d f g.filling c l in
      (h.0, cut_lists d f c (get_or f c 0) l h.0 ∙ simp (h.1, eq-eqb (get_or f c 0) (get_or f c 0) refl))

  cut_only : (c v : ℕ) → c < length d → v < values → lists (get_or (cut d f) c 0) v ≡ true → get_or f c 0 ≡ v
  cut_only c v l k e = eqb-true _ _ (and_right (lists (get_or d c 0) v) _ (sym (cut_lists d f c v l k) ∙ e))

  cut_good : (r : Row) → r ∈ rs → RowFilling r (cut d f) (gather f r.cells)
  cut_good r m =
      record {
        filling = filling_by (gather (cut d f) r.cells) (gather f r.cells) (gather_length f r.cells ∙ sym (gather_length (cut d f) r.cells))
            (λ p k. at p (omega (arith, gather_length (cut d f) r.cells)));
        is_good = g.is_good r m;
      }
    where
      at : (p : ℕ) → p < length r.cells
          → (get_or (gather f r.cells) p 0 < values) × (lists (get_or (gather (cut d f) r.cells) p 0) (get_or (gather f r.cells) p 0) ≡ true)
      at p l = rw (gather_at f r.cells p l, gather_at (cut d f) r.cells p l) (cut_has (get_or r.cells p 0) ((board.rows r m).inside p l))

  pub cut_consistent : Consistent rs (cut d f)
  cut_consistent r m p v l k e =
      let x : get_or (gather f r.cells) p 0 ≡ v = gather_at f r.cells p l ∙ cut_only (get_or r.cells p 0) v ((board.rows r m).inside p l) k e in
      rw x at (good→count r.weights (gather (cut d f) r.cells) r.low r.high (gather f r.cells) (cut_good r m) p)

  -- so domains that have it within have the filling
  pub cut_filling : (e : List ℕ) → NoNewValue (cut d f) e → BoardFilling rs e f
  cut_filling e w =
      let n : length e ≡ length d = sym w.cells ∙ cut_length d f in
      record {
        filling = filling_by e f (filling_length d f g.filling ∙ sym n) (λ c l.
            let h = cut_has c (omega arith) in (h.0, w.values_there c (get_or f c 0) h.0 h.1));
        is_good = g.is_good;
      }
