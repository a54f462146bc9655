-- A row with another's pairs in any order and limits no wider supports no value that the other does not. Assumes nothing.
use Rattle.std.specs.Prelude.{◌≡◌, refl, true, ℕ, zero, suc, ◌+◌, ◌*◌, ◌<◌, length, get_or}
use Rattle.std.proofs.Common.{sym, ap, ◌∙◌, ⊎_elim, le_of_suc-le-suc, arith}
use mathlib.Core.List.Memᴰ
use mathlib.Core.List.Permᴰ
use mathlib.Core.List.{List, [], ◌∷◌, Memᴰ}
use Rattle.sizes.specs.Sizes.{values}
use Rattle.listing.specs.Listing.{sum_over}
use Rattle.listing.specs.Orders.{order_member, order_sum}
use Rattle.counting.specs.Counting.{lists, weigh}
use Rattle.counting.proofs.Over.{filling_length, filling_at, filling_by}
use Rattle.counting.proofs.Fillings.{count→good, good→count, good_sum, sum_good}
use Rattle.settling.specs.Settling.{Row, Names, Fits, gather, scatter, RowFilling, Supported, pairs, Tighter}
use Rattle.settling.specs.Cells.{gather_length, gather_at, scatter_gather}

-- a sum of weight times value goes over the pairs
weigh_pairs : (f cs ws : List ℕ) → weigh ws (gather f cs) ≡ sum_over (λ q. q.1 * get_or f q.0 0) (pairs cs ws)
unfolding weigh gather
weigh_pairs f [] [] = refl
weigh_pairs f [] (w ∷ ws) = refl
weigh_pairs f (c ∷ cs) [] = refl
weigh_pairs f (c ∷ cs) (w ∷ ws) = ap (λ (n : ℕ). w * get_or f c 0 + n) (weigh_pairs f cs ws)

-- each place has a pair, and each pair a place
place→pair : (cs ws : List ℕ) → length ws ≡ length cs → (p : ℕ) → p < length cs → Memᴰ (get_or cs p 0, get_or ws p 0) (pairs cs ws)
place→pair [] ws n p l = absurd (omega arith)
place→pair (c ∷ cs) [] n p l = absurd (omega arith)
place→pair (c ∷ cs) (w ∷ ws) n zero l = Memᴰ.head refl
place→pair (c ∷ cs) (w ∷ ws) n (suc p) l = Memᴰ.tail (place→pair cs ws (omega arith) p (le_of_suc-le-suc l))

pair→place : (cs ws : List ℕ) (q : ℕ × ℕ) → Memᴰ q (pairs cs ws) → Names cs q.0
pair→place [] ws q m = absurd (Memᴰ.not-nil m)
pair→place (c ∷ cs) [] q m = absurd (Memᴰ.not-nil m)
pair→place (c ∷ cs) (w ∷ ws) q m =
    ⊎_elim (λ e. (0, omega arith, sym (ap (λ (x : ℕ × ℕ). x.0) e)))
    (λ k. let t = pair→place cs ws q k in (suc t.0, omega (arith, t.1), t.2)) (Memᴰ.cases_cons m)

module _ (s r : Row) (t : Tighter s r) (d : List ℕ) (fs : Fits (length d) s) (fr : Fits (length d) r) where
  -- r's cells are s's
  there : (p : ℕ) → p < length r.cells → Names s.cells (get_or r.cells p 0)
  there p l =
      pair→place s.cells s.weights _ (order_member (Permᴰ.symm t.same_pairs) (place→pair r.cells r.weights fr.lengths p l))

  -- values f of the board's cells that are a good filling of s are one of r
  moved : (f : List ℕ) → RowFilling s d (gather f s.cells) → RowFilling r d (gather f r.cells)
  moved f g =
      let sum = good_sum s.weights (gather d s.cells) s.low s.high (gather f s.cells) g in
      let same = weigh_pairs f s.cells s.weights ∙ order_sum _ t.same_pairs ∙ sym (weigh_pairs f r.cells r.weights) in
      sum_good r.weights (gather d r.cells) r.low r.high (gather f r.cells)
      (filling_by (gather d r.cells) (gather f r.cells) (gather_length f r.cells ∙ sym (gather_length d r.cells)) (λ p l. at p (omega (arith, gather_length d r.cells))))
      (omega (arith, t.low)) (omega (arith, t.high))
    where
      at : (p : ℕ) → p < length r.cells
          → (get_or (gather f r.cells) p 0 < values) × (lists (get_or (gather d r.cells) p 0) (get_or (gather f r.cells) p 0) ≡ true)
      at p l =
          let q = there p l in
          let h = filling_at (gather d s.cells) (gather f s.cells) g.filling q.0 (omega (arith, gather_length d s.cells, q.1)) in
          rw (gather_at f r.cells p l, gather_at d r.cells p l, ← q.2)
          (rw (gather_at f s.cells q.0 q.1, gather_at d s.cells q.0 q.1) at h)

  pub tighter_supported : Supported d s → Supported d r
  tighter_supported sup p v l k e =
      let q = there p l in
      let g = count→good s.weights (gather d s.cells) s.low s.high q.0 v (sup q.0 v q.1 k (rw q.2 e)) in
      let f = scatter s.cells g.0 d in
      let n = filling_length (gather d s.cells) g.0 g.1.filling ∙ gather_length d s.cells in
      let same : gather f s.cells ≡ g.0 = scatter_gather s.cells g.0 d fs.once n fs.inside in
      let x : get_or (gather f r.cells) p 0 ≡ v =
      gather_at f r.cells p l ∙ ap (λ (c : ℕ). get_or f c 0) (sym q.2) ∙ sym (gather_at f s.cells q.0 q.1)
      ∙ ap (λ (xs : List ℕ). get_or xs q.0 0) same ∙ g.2 in
      rw x at (good→count r.weights (gather d r.cells) r.low r.high (gather f r.cells) (moved f (rw same g.1)) p)
