-- A count is a sum of forward times backward numbers, and each cell's counts add up to the total. Assumes nothing.
use Rattle.std.specs.Prelude.{◌≡◌, refl, Bool, true, false, ◌&&◌, ℕ, suc, ◌+◌, ◌*◌, ◌^◌, ◌≤◌, ◌<◌, ltb, length, get_or, take}
use Rattle.std.proofs.Math.Path.{sym, ap}
use Rattle.std.proofs.Common.{ap₂, ◌∙◌, le_trans, arith, length-take, eq-eqb, ne_eqb, eqb-true, ltb-true, ltb-false}
use mathlib.Core.List.{List, [], ◌∷◌, ◌++◌}
use Rattle.std.proofs.Math.Dec.{eqb}
use Rattle.std.proofs.Math.ListN.{drop}
use Rattle.std.proofs.Math.Seq.{split_at}
use Rattle.std.proofs.lemmas.List.{get_or_at}
use Rattle.std.proofs.lemmas.Bool.{eqb-false}
use Rattle.told.specs.Told.{when}
use Rattle.sizes.specs.Sizes.{values, sums}
use Rattle.listing.specs.Listing.{sum_over, below}
use Rattle.counting.specs.Counting.{lists, listed, fillings, weigh, within, good, total, count, forward, backward}
use Rattle.listing.specs.Sums.{when_both, when_swap, when_times, sum_cong, sum_when, sum_times, sum_swap, sum_part, pick, pick_none, how_many_sum}
use Rattle.counting.proofs.Domains.{pick_listed}
use Rattle.counting.proofs.Over.{over_fillings, over_cons, over_append, over_cong, filling_length, filling_at}
use Rattle.counting.proofs.Tables.{forward_sum, backward_sum, backward_high, total_le}

eqb_swap : (a b : ℕ) → eqb a b ≡ eqb b a
eqb_swap a b = go (eqb b a) refl
  where
    go : (t : Bool) → eqb b a ≡ t → eqb a b ≡ eqb b a
    go true e = eq-eqb a b (sym (eqb-true b a e)) ∙ sym e
    go false e = ne_eqb a b (λ m. eqb-false b a e (sym m)) ∙ sym e

when_and : (a b : Bool) → when (a && b) 1 ≡ when b (when a 1)
when_and a b = when_both 1 a b ∙ when_swap 1 a b

-- ---- a count from the tables

weigh_split : (us : List ℕ) (w : ℕ) (ws f : List ℕ) (x : ℕ) (h : List ℕ) → length f ≡ length us
    → weigh (us ++ w ∷ ws) (f ++ x ∷ h) ≡ weigh us f + w * x + weigh ws h
unfolding weigh
weigh_split [] w ws [] x h e = omega arith
weigh_split [] w ws (y ∷ f) x h e = absurd (omega arith)
weigh_split (u ∷ us) w ws [] x h e = absurd (omega arith)
weigh_split (u ∷ us) w ws (y ∷ f) x h e = rw (weigh_split us w ws f x h (omega arith)) (omega arith)

-- a sum of terms g (s x), by the value of s; g is 0 from n on
by_value_lem : {A : Type 0} (s : A → ℕ) (g : ℕ → ℕ) (n : ℕ) (xs : List A) → ((b : ℕ) → n ≤ b → g b ≡ 0)
    → sum_over (λ x. g (s x)) xs ≡ sum_over (λ b. sum_over (λ x. when (eqb (s x) b) 1) xs * g b) (below n)
by_value_lem s g n xs out =
    sum_cong _ _ xs (λ x. sym (one (s x)))
    ∙ sum_swap (λ x b. when (eqb (s x) b) 1 * g b) xs (below n)
    ∙ sum_cong _ _ (below n) (λ b. sum_times (λ x. when (eqb (s x) b) 1) (g b) xs)
  where
    flat : (a b : ℕ) → when (eqb a b) 1 * g b ≡ when (eqb b a) (g b)
    flat a b = when_times (g b) (eqb a b) ∙ ap (λ (t : Bool). when t (g b)) (eqb_swap a b)

    go : (a : ℕ) (t : Bool) → ltb a n ≡ t → sum_over (λ b. when (eqb b a) (g b)) (below n) ≡ g a
    go a true e = pick g a n (ltb-true a n e)
    go a false e = pick_none g a n (ltb-false a n e) ∙ sym (out a (ltb-false a n e))

    one : (a : ℕ) → sum_over (λ b. when (eqb a b) 1 * g b) (below n) ≡ g a
    one a = sum_cong _ _ (below n) (flat a) ∙ go a (ltb a n) refl

module _ (ws ds : List ℕ) (low high p v : ℕ) (in_row : p < length ds) (same : length ws ≡ length ds) (value : v < values) (limit : high < sums) where
  abbrev w : ℕ
  w = get_or ws p 0

  abbrev d : ℕ
  d = get_or ds p 0

  abbrev back : ℕ → ℕ
  back b = backward ws ds low high (suc p) b

  -- a filling is one of the cells before, a value x, and one of the cells after
  apart : (f : List ℕ) (x : ℕ) (h : List ℕ) → length f ≡ length (take p ds)
      → weigh ws (f ++ x ∷ h) ≡ weigh (take p ws) f + w * x + weigh (drop (suc p) ws) h
  apart f x h l =
      ap (λ (us : List ℕ). weigh us (f ++ x ∷ h)) (split_at ws p 0 (omega arith))
      ∙ weigh_split (take p ws) w (drop (suc p) ws) f x h (omega (arith, length-take p ds, length-take p ws))

  each : (f : List ℕ) → length f ≡ length (take p ds) → (x : ℕ)
      → over_fillings (drop (suc p) ds) (λ h. when (good ws low high (f ++ x ∷ h) && eqb (get_or (f ++ x ∷ h) p 0) v) 1)
      ≡ when (eqb x v) (back (weigh (take p ws) f + w * x))
  each f l x =
      sum_cong _ _ (fillings (drop (suc p) ds)) (λ h.
      ap₂ (λ (s y : ℕ). when (within low high s && eqb y v) 1) (apart f x h l) (get_or_at f x h 0 p (omega (arith, length-take p ds)))
      ∙ when_and (within low high (weigh (take p ws) f + w * x + weigh (drop (suc p) ws) h)) (eqb x v))
      ∙ sum_when (eqb x v) _ (fillings (drop (suc p) ds))
      ∙ ap (when (eqb x v)) (sym (backward_sum ws ds low high (suc p) (weigh (take p ws) f + w * x)))

  -- the count of a listed value: forward numbers before its cell times backward numbers after it, over every sum
  pub count_law : count ws ds low high p v
      ≡ when (lists (get_or ds p 0) v) (sum_over (λ b. forward ws ds p b * backward ws ds low high (suc p) (b + get_or ws p 0 * v)) (below sums))
  unfolding count
  count_law =
      how_many_sum _ (fillings ds)
      ∙ ap (λ (l : List ℕ). over_fillings l (λ f. when (good ws low high f && eqb (get_or f p 0) v) 1)) (split_at ds p 0 in_row)
      ∙ over_append (take p ds) (d ∷ drop (suc p) ds) _
      ∙ over_cong (take p ds) _ _ (λ f t.
      over_cons d (drop (suc p) ds) _
      ∙ sum_cong _ _ (listed d) (each f (filling_length (take p ds) f t))
      ∙ pick_listed d (λ x. back (weigh (take p ws) f + w * x)) v value)
      ∙ sum_when (lists d v) (λ f. back (weigh (take p ws) f + w * v)) (fillings (take p ds))
      ∙ ap (when (lists d v))
      (by_value_lem (weigh (take p ws)) (λ b. back (b + w * v)) sums (fillings (take p ds)) (λ b h. backward_high ws ds low high (suc p) (b + w * v) (omega arith))
      ∙ sum_cong _ _ (below sums) (λ b. ap (λ (n : ℕ). n * back (b + w * v)) (sym (forward_sum ws ds p b))))

-- ---- each cell's counts add up to the total

module _ (ws ds : List ℕ) (low high p : ℕ) (in_row : p < length ds) where
  pub counts_add_up : sum_over (λ v. count ws ds low high p v) (below values) ≡ total ws ds low high
  unfolding count total
  counts_add_up =
      sum_cong _ _ (below values) (λ v. how_many_sum (λ f. good ws low high f && eqb (get_or f p 0) v) (fillings ds))
      ∙ sum_swap (λ v f. when (good ws low high f && eqb (get_or f p 0) v) 1) (below values) (fillings ds)
      ∙ over_cong ds _ _ (λ f t. one (good ws low high f) (get_or f p 0) (filling_at ds f t p in_row).0)
      ∙ sym (how_many_sum (good ws low high) (fillings ds))
    where
      one : (t : Bool) (x : ℕ) → x < values → sum_over (λ v. when (t && eqb x v) 1) (below values) ≡ when t 1
      one t x l =
          sum_cong _ _ (below values) (λ v. when_and t (eqb x v) ∙ ap (λ (e : Bool). when e (when t 1)) (eqb_swap x v))
          ∙ pick (λ v. when t 1) x values l

  -- so a count is at most the total, and that at most 32 to the n
  pub count_total : (v : ℕ) → v < values → count ws ds low high p v ≤ total ws ds low high
  count_total v k = omega (arith, sum_part (λ u. count ws ds low high p u) v values k, counts_add_up)

  pub count_le : (v : ℕ) → v < values → count ws ds low high p v ≤ values ^ length ds
  count_le v k = le_trans (count_total v k) (total_le ws ds low high)
