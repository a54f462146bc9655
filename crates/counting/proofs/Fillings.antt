-- A count is above 0 exactly where a good filling has the value in place; counts grow with the domains and the limits; the enumeration has each
-- filling exactly once. Assumes nothing.
use Rattle.std.specs.Prelude.{◌≡◌, refl, Bool, true, false, ◌&&◌, List, [], ◌∷◌, ℕ, zero, suc, ◌≤◌, ◌<◌, leb, length, get_or}
use Rattle.std.proofs.Common.{sym, ap, ap₂, ◌∙◌, le_refl, le_trans, le_of_eq, arith}
use borrow.Author.Tests.{leb-true, le-leb, eqb-true, eq-eqb}
use Rattle.std.proofs.Math.Dec.{eqb}
use Rattle.told.specs.Told.{when}
use Rattle.sizes.specs.Sizes.{values}
use Rattle.listing.specs.Listing.{how_many}
use Rattle.counting.specs.Counting.{lists, listed, fillings, weigh, good, total, count, Filling, GoodFilling, NoNewValue}
use Rattle.listing.specs.Sums.{never, and_left, and_right, when_both, when_some, when_grows, sum_cong, sum_when, how_many_sum}
use Rattle.counting.proofs.Domains.{◌⇒◌, pick_listed, listed_some, listed_one}
use Rattle.counting.proofs.Over.{over_fillings, over_nil, over_cons, over_grows, filling_at}

-- ---- how many of a row's fillings pass a test

-- a sum over fillings that is above 0 has a term above 0, and is at least each of its terms
over_some : (ds : List ℕ) (g : List ℕ → ℕ) → 1 ≤ over_fillings ds g → (f : List ℕ) × Filling ds f × (1 ≤ g f)
over_some [] g h = ([], tt, rw (over_nil g) at h)
over_some (d ∷ ds) g h =
    let r = listed_some d (λ v. over_fillings ds (λ f. g (v ∷ f))) (rw (over_cons d ds g) at h) in
    let t = over_some ds (λ f. g (r.0 ∷ f)) r.3 in
    (r.0 ∷ t.0, (r.1, r.2, t.1), t.2)

over_one : (ds : List ℕ) (g : List ℕ → ℕ) (f : List ℕ) → Filling ds f → g f ≤ over_fillings ds g
over_one [] g [] t = le_of_eq (sym (over_nil g))
over_one [] g (v ∷ f) t = absurd t
over_one (d ∷ ds) g [] t = absurd t
over_one (d ∷ ds) g (v ∷ f) t =
    le_trans (over_one ds (λ h. g (v ∷ h)) f t.2)
    (le_trans (listed_one d (λ u. over_fillings ds (λ h. g (u ∷ h))) v t.0 t.1) (le_of_eq (sym (over_cons d ds g))))

-- some do exactly where one does
many→one : (ds : List ℕ) (p : List ℕ → Bool) → 1 ≤ how_many p (fillings ds) → (f : List ℕ) × Filling ds f × (p f ≡ true)
many→one ds p h =
    let r = over_some ds (λ f. when (p f) 1) (rw (how_many_sum p (fillings ds)) at h) in
    (r.0, r.1, (when_some (p r.0) 1 r.2).0)

one→many : (ds : List ℕ) (p : List ℕ → Bool) (f : List ℕ) → Filling ds f → p f ≡ true → 1 ≤ how_many p (fillings ds)
one→many ds p f t e =
    let one : when (p f) 1 ≡ 1 = rw e in
    omega (arith, over_one ds (λ h. when (p h) 1) f t, how_many_sum p (fillings ds))

-- and no fewer where there are more values and an easier test
many_grows : (ds es : List ℕ) (p q : List ℕ → Bool) → NoNewValue ds es → ((f : List ℕ) → p f ⇒ q f) → how_many p (fillings ds) ≤ how_many q (fillings es)
many_grows ds es p q w i =
    rw (how_many_sum p (fillings ds), how_many_sum q (fillings es)) (over_grows ds es _ _ w (λ f. when_grows (p f) (q f) 1 1 (i f) (le_refl 1)))

-- ---- counts and totals

module _ (ws ds : List ℕ) (low high : ℕ) where
  -- a count is above 0 exactly where a good filling has the value in place
  pub count→good : (p v : ℕ) → 1 ≤ count ws ds low high p v → (f : List ℕ) × GoodFilling ws ds low high f × (get_or f p 0 ≡ v)
  unfolding count
  count→good p v h =
      let r = many→one ds (λ f. good ws low high f && eqb (get_or f p 0) v) h in
      (r.0, record { filling = r.1; is_good = and_left (good ws low high r.0) _ r.2 }, eqb-true _ _ (and_right (good ws low high r.0) _ r.2))

  pub good→count : (f : List ℕ) → GoodFilling ws ds low high f → (p : ℕ) → 1 ≤ count ws ds low high p (get_or f p 0)
  unfolding count
  good→count f g p = one→many ds _ f g.filling (simp (g.is_good, eq-eqb (get_or f p 0) (get_or f p 0) refl))

  -- and a total exactly where there is a good filling
  pub total→good : 1 ≤ total ws ds low high → (f : List ℕ) × GoodFilling ws ds low high f
  unfolding total
  total→good h = let r = many→one ds (good ws low high) h in (r.0, record { filling = r.1; is_good = r.2 })

  pub good→total : (f : List ℕ) → GoodFilling ws ds low high f → 1 ≤ total ws ds low high
  unfolding total
  good→total f g = one→many ds (good ws low high) f g.filling g.is_good

  -- a good filling's sum lies from low to high
  pub good_sum : (f : List ℕ) → GoodFilling ws ds low high f → (low ≤ weigh ws f) × (weigh ws f ≤ high)
  good_sum f g =
      (leb-true _ _ (and_left (leb low (weigh ws f)) _ g.is_good), leb-true _ _ (and_right (leb low (weigh ws f)) _ g.is_good))

  pub sum_good : (f : List ℕ) → Filling ds f → low ≤ weigh ws f → weigh ws f ≤ high → GoodFilling ws ds low high f
  sum_good f t l h = record { filling = t; is_good = simp (le-leb low (weigh ws f) l, le-leb (weigh ws f) high h) }

  -- a value with a count above 0 is listed, so an unlisted value counts 0
  pub count_listed : (p v : ℕ) → p < length ds → 1 ≤ count ws ds low high p v → (v < values) × (lists (get_or ds p 0) v ≡ true)
  count_listed p v l h =
      let r = count→good p v h in
      rw r.2 at (filling_at ds r.0 r.1.filling p l)

  pub count_unlisted : (p v : ℕ) → p < length ds → lists (get_or ds p 0) v ≡ false → count ws ds low high p v ≡ 0
  count_unlisted p v l e = go (count ws ds low high p v) refl
    where
      go : (n : ℕ) → count ws ds low high p v ≡ n → n ≡ 0
      go zero q = refl
      go (suc n) q = absurd (never (sym e ∙ (count_listed p v l (rw q (omega arith))).1))

-- more values and wider limits make no count and no total smaller
module _ (ws ds es : List ℕ) (low high low' high' : ℕ) (w : NoNewValue ds es) (lower : low' ≤ low) (higher : high ≤ high') where
  wider : (f : List ℕ) → good ws low high f ⇒ good ws low' high' f
  wider f g =
      let a : low ≤ weigh ws f = leb-true _ _ (and_left (leb low (weigh ws f)) _ g) in
      let b : weigh ws f ≤ high = leb-true _ _ (and_right (leb low (weigh ws f)) _ g) in
      simp (le-leb low' (weigh ws f) (omega arith), le-leb (weigh ws f) high' (omega arith))

  pub total_grows : total ws ds low high ≤ total ws es low' high'
  unfolding total
  total_grows = many_grows ds es _ _ w wider

  pub count_grows : (p v : ℕ) → count ws ds low high p v ≤ count ws es low' high' p v
  unfolding count
  count_grows p v = many_grows ds es _ _ w (λ f g. simp (wider f (and_left (good ws low high f) _ g), and_right (good ws low high f) _ g))

-- ---- the enumeration has each filling exactly once, and nothing else

-- the two lists are the same
abbrev pub same : List ℕ → List ℕ → Bool
same [] [] = true
same [] (u ∷ g) = false
same (v ∷ f) [] = false
same (v ∷ f) (u ∷ g) = eqb u v && same f g

pub once : (ds f : List ℕ) → Filling ds f → how_many (same f) (fillings ds) ≡ 1
once [] [] t = how_many_sum (same []) (fillings []) ∙ over_nil _
once [] (v ∷ f) t = absurd t
once (d ∷ ds) [] t = absurd t
once (d ∷ ds) (v ∷ f) t =
    how_many_sum (same (v ∷ f)) (fillings (d ∷ ds))
    ∙ over_cons d ds _
    ∙ sum_cong _ _ (listed d) (λ u.
    sum_cong _ _ (fillings ds) (λ g. when_both 1 (eqb u v) (same f g))
    ∙ sum_when (eqb u v) _ (fillings ds)
    ∙ ap (when (eqb u v)) (sym (how_many_sum (same f) (fillings ds)) ∙ once ds f t.2))
    ∙ pick_listed d (λ u. 1) v t.0
    ∙ ap (λ (b : Bool). when b 1) t.1

pub nothing_else : (ds f : List ℕ) → 1 ≤ how_many (same f) (fillings ds) → Filling ds f
nothing_else ds f h =
    let r = many→one ds (same f) h in
    rw (same_is f r.0 r.2) r.1
  where
    same_is : (f g : List ℕ) → same f g ≡ true → f ≡ g
    same_is [] [] e = refl
    same_is [] (u ∷ g) e = absurd (never e)
    same_is (v ∷ f) [] e = absurd (never e)
    same_is (v ∷ f) (u ∷ g) e =
        ap₂ ◌∷◌ (sym (eqb-true u v (and_left (eqb u v) (same f g) e))) (same_is f g (and_right (eqb u v) (same f g) e))
