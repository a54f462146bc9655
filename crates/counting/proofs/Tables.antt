-- How the forward and the backward numbers at one place follow from those beside it, that the total is a backward number, and bounds. Assumes nothing.
use Rattle.std.specs.Prelude.{◌≡◌, refl, Bool, true, false, ◌&&◌, List, [], ◌∷◌, ◌++◌, ℕ, suc, ◌+◌, ◌-◌, ◌*◌, ◌^◌, ◌≤◌, ◌<◌, leb, eqb, length, get_or, take, drop}
use Rattle.std.proofs.Math.Path.{sym, ap}
use Rattle.std.proofs.Common.{ap₂, ◌∙◌, add-zero, zero-add, add_assoc, le_of_eq, arith, length-drop, take-suc, drop-cons, eq-eqb, ne_eqb, eqb-true, leb-true, leb-false}
use Rattle.std.proofs.Math.Nat.{le_trans}
use Rattle.std.proofs.Math.ListN.{length-take}
use Rattle.std.proofs.Math.Seq.{drop-length}
use Rattle.std.proofs.lemmas.Bool.{lt-leb, eqb-false}
use Rattle.told.specs.Told.{when}
use Rattle.sizes.specs.Sizes.{values}
use Rattle.listing.specs.Listing.{sum_over}
use Rattle.counting.specs.Counting.{listed, fillings, weigh, within, total, forward, backward}
use Rattle.listing.specs.Sums.{when_both, sum_cong, sum_zero, sum_when, how_many_sum}
use Rattle.counting.proofs.Over.{over_fillings, over_nil, over_cons, over_snoc, over_cong, filling_length, many_le}

-- a weight more at the end
weigh_snoc : (ws : List ℕ) (w : ℕ) (f : List ℕ) (v : ℕ) → length f ≡ length ws → weigh (ws ++ (w ∷ [])) (f ++ (v ∷ [])) ≡ weigh ws f + w * v
unfolding weigh
weigh_snoc [] w [] v e = omega arith
weigh_snoc [] w (x ∷ f) v e = absurd (omega arith)
weigh_snoc (u ∷ ws) w [] v e = absurd (omega arith)
weigh_snoc (u ∷ ws) w (x ∷ f) v e = rw (weigh_snoc ws w f v (omega arith)) (omega arith)

weigh_cons : (b w : ℕ) (ws : List ℕ) (v : ℕ) (f : List ℕ) → b + weigh (w ∷ ws) (v ∷ f) ≡ b + w * v + weigh ws f
unfolding weigh
weigh_cons b w ws v f = sym (add_assoc b (w * v) (weigh ws f))

weigh_nil : (ws : List ℕ) → weigh ws [] ≡ 0
unfolding weigh
weigh_nil [] = refl
weigh_nil (w ∷ ws) = refl

-- what the last cell's value leaves of the sum
eqb_minus : (s k b : ℕ) → eqb (s + k) b ≡ (leb k b && eqb s (b - k))
eqb_minus s k b = go (leb k b) refl (eqb (s + k) b) refl
  where
    go : (t : Bool) → leb k b ≡ t → (u : Bool) → eqb (s + k) b ≡ u → eqb (s + k) b ≡ (leb k b && eqb s (b - k))
    go true p true q =
        let k≤b : k ≤ b = leb-true k b p in
        let sum : s + k ≡ b = eqb-true (s + k) b q in
        q ∙ sym (ap₂ ◌&&◌ p (eq-eqb s (b - k) (omega arith)))
    go true p false q =
        let k≤b : k ≤ b = leb-true k b p in
        q ∙ sym (ap₂ ◌&&◌ p (ne_eqb s (b - k) (λ m. eqb-false (s + k) b q (omega arith))))
    go false p true q =
        let b<k : b < k = leb-false k b p in
        let sum : s + k ≡ b = eqb-true (s + k) b q in
        absurd (omega arith)
    go false p false q = q ∙ sym (ap (λ (t : Bool). t && eqb s (b - k)) p)

and_false : (t : Bool) → (t && false) ≡ false
and_false true = refl
and_false false = refl

-- ---- forward numbers

pub forward_zero : (ws ds : List ℕ) (b : ℕ) → forward ws ds 0 b ≡ when (eqb 0 b) 1
unfolding forward weigh
forward_zero ws ds b = how_many_sum _ (fillings []) ∙ over_nil _

module _ (ws ds : List ℕ) where
  pub forward_sum : (i b : ℕ) → forward ws ds i b ≡ over_fillings (take i ds) (λ f. when (eqb (weigh (take i ws) f) b) 1)
  unfolding forward
  forward_sum i b = how_many_sum _ (fillings (take i ds))

  pub forward_suc : (i b : ℕ) → i < length ds → length ws ≡ length ds
      → forward ws ds (suc i) b ≡ sum_over (λ v. when (leb (get_or ws i 0 * v) b) (forward ws ds i (b - get_or ws i 0 * v))) (listed (get_or ds i 0))
  forward_suc i b h e =
      forward_sum (suc i) b
      ∙ rw (take-suc ds i 0 h, take-suc ws i 0 (omega arith)) (over_snoc (take i ds) d _)
      ∙ sum_cong _ _ (listed d) (λ v. each v ∙ sum_when (leb (w * v) b) _ (fillings (take i ds)) ∙ ap (when (leb (w * v) b)) (sym (forward_sum i (b - w * v))))
    where
      d : ℕ
      d = get_or ds i 0

      w : ℕ
      w = get_or ws i 0

      each : (v : ℕ) → over_fillings (take i ds) (λ f. when (eqb (weigh (take i ws ++ (w ∷ [])) (f ++ (v ∷ []))) b) 1)
          ≡ over_fillings (take i ds) (λ f. when (leb (w * v) b) (when (eqb (weigh (take i ws) f) (b - w * v)) 1))
      each v = over_cong (take i ds) _ _ (λ f t. ap (λ (t : Bool). when t 1)
          (ap (λ (s : ℕ). eqb s b) (weigh_snoc (take i ws) w f v (omega (arith, filling_length (take i ds) f t, length-take i ds, length-take i ws))) ∙ eqb_minus (weigh (take i ws) f) (w * v) b) ∙ when_both 1 (leb (w * v) b) (eqb (weigh (take i ws) f) (b - w * v)))

  pub forward_le : (i b : ℕ) → i ≤ length ds → forward ws ds i b ≤ values ^ i
  unfolding forward
  forward_le i b h = le_trans (many_le (take i ds) _) (le_of_eq (ap (λ (n : ℕ). values ^ n) (omega (arith, length-take i ds))))

  -- ---- backward numbers

  module _ (low high : ℕ) where
    pub backward_sum : (i b : ℕ) → backward ws ds low high i b ≡ over_fillings (drop i ds) (λ f. when (within low high (b + weigh (drop i ws) f)) 1)
    unfolding backward
    backward_sum i b = how_many_sum _ (fillings (drop i ds))

    -- the total is the backward number at (0, 0)
    pub total_backward : total ws ds low high ≡ backward ws ds low high 0 0
    unfolding total
    total_backward = how_many_sum _ (fillings ds) ∙ sum_cong _ _ (fillings ds) (λ f. ap (λ (s : ℕ). when (within low high s) 1) (sym (zero-add (weigh ws f)))) ∙ sym (backward_sum 0 0)

    pub backward_end : (b : ℕ) → backward ws ds low high (length ds) b ≡ when (within low high b) 1
    backward_end b =
        backward_sum (length ds) b
        ∙ ap (λ (l : List ℕ). over_fillings l (λ f. when (within low high (b + weigh (drop (length ds) ws) f)) 1)) (drop-length ds)
        ∙ over_nil _
        ∙ ap (λ (s : ℕ). when (within low high s) 1) (ap (λ (s : ℕ). b + s) (weigh_nil (drop (length ds) ws)) ∙ add-zero b)

    pub backward_suc : (i b : ℕ) → i < length ds → length ws ≡ length ds
        → backward ws ds low high i b ≡ sum_over (λ v. backward ws ds low high (suc i) (b + get_or ws i 0 * v)) (listed (get_or ds i 0))
    backward_suc i b h e =
        backward_sum i b
        ∙ rw (drop-cons ds i 0 h, drop-cons ws i 0 (omega arith)) (over_cons d (drop (suc i) ds) _)
        ∙ sum_cong _ _ (listed d) (λ v. sum_cong _ _ (fillings (drop (suc i) ds)) (λ f. ap (λ (s : ℕ). when (within low high s) 1) (each v f)) ∙ sym (backward_sum (suc i) (b + w * v)))
      where
        d : ℕ
        d = get_or ds i 0

        w : ℕ
        w = get_or ws i 0

        each : (v : ℕ) (f : List ℕ) → b + weigh (w ∷ drop (suc i) ws) (v ∷ f) ≡ b + w * v + weigh (drop (suc i) ws) f
        each v f = weigh_cons b w (drop (suc i) ws) v f

    -- sums above high are past mending
    pub backward_high : (i b : ℕ) → high < b → backward ws ds low high i b ≡ 0
    backward_high i b h = backward_sum i b ∙ sum_cong _ _ (fillings (drop i ds)) each ∙ sum_zero (fillings (drop i ds))
      where
        each : (f : List ℕ) → when (within low high (b + weigh (drop i ws) f)) 1 ≡ 0
        each f = ap (λ (t : Bool). when t 1) (ap (λ (t : Bool). leb low (b + weigh (drop i ws) f) && t) (lt-leb (b + weigh (drop i ws) f) high (omega arith)) ∙ and_false (leb low (b + weigh (drop i ws) f)))

    pub backward_le : (i b : ℕ) → backward ws ds low high i b ≤ values ^ (length ds - i)
    unfolding backward
    backward_le i b = le_trans (many_le (drop i ds) _) (le_of_eq (ap (λ (n : ℕ). values ^ n) (length-drop i ds)))

    pub total_le : total ws ds low high ≤ values ^ length ds
    unfolding total
    total_le = many_le ds _
