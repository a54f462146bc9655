-- Laws of lists by their places, and of rooms written at the front. Assumes nothing.
use Rattle.std.specs.Prelude.{◌≡◌, Bool, true, false, ◌≢◌, ℕ, zero, suc, ◌+◌, ◌-◌, ◌≤◌, ◌<◌, eqb, ltb, get_or, take}
use Rattle.std.proofs.Math.Path.{refl, ap}
use Rattle.std.proofs.Common.{sym, ap₂, ◌∙◌, ⊎_elim, le_refl, le_of_suc-le-suc, eqb-true, ltb-true, ltb-false, length-take-le, get_or-take, get_or-append-add, take-suc, ext_get_or}
use mathlib.Core.List.Memᴰ
use mathlib.Core.List.{List, [], ◌∷◌, ◌++◌, append-nil, map, Memᴰ}
use native.Mathlib.Omega.{arith}
use Rattle.std.proofs.lemmas.Bool.{eqb-false}
use Rattle.std.proofs.Math.ListN.{length, drop, length-append, length-drop, get_or-append}
use Rattle.std.proofs.lemmas.List.{get_or_at}
use Rattle.std.proofs.Math.Seq.{get_or-drop, drop-append_seam, take-append_seam, take-length, drop-length}
use Rattle.listing.specs.Listing.{below, by_place, onto, sum_over}
use Rattle.listing.specs.Sums.{sum_below, sum_nil, sum_append}

-- ---- lists by their places

module _ {A : Type 0} (g : ℕ → A) where
  map_append : (xs ys : List ℕ) → map g (xs ++ ys) ≡ map g xs ++ map g ys
  map_append [] ys = refl
  map_append (x ∷ xs) ys = ap (λ (l : List A). g x ∷ l) (map_append xs ys)

  pub place_none : by_place g 0 ≡ []
  unfolding by_place below
  place_none = refl

  pub place_more : (n : ℕ) → by_place g (suc n) ≡ by_place g n ++ (g n ∷ [])
  unfolding by_place below
  place_more n = map_append (below n) (n ∷ [])

  pub place_length : (n : ℕ) → length (by_place g n) ≡ n
  place_length zero = ap length place_none
  place_length (suc n) = rw (place_more n) (omega (arith, length-append (by_place g n) (g n ∷ []), place_length n))

  pub place_at : (n i : ℕ) (z : A) → i < n → get_or (by_place g n) i z ≡ g i
  place_at zero i z l = absurd (omega arith)
  place_at (suc n) i z l = rw (place_more n) (go (λ k. place_at n i z k) (eqb i n) refl)
    where
      go : (i < n → get_or (by_place g n) i z ≡ g i) → (t : Bool) → eqb i n ≡ t → get_or (by_place g n ++ (g n ∷ [])) i z ≡ g i
      go r true q = let e : i ≡ n = eqb-true i n q in get_or_at (by_place g n) (g n) [] z i (place_length n ∙ sym e) ∙ ap g (sym e)
      go r false q = let e : i ≢ n = eqb-false i n q in get_or-append (by_place g n) (g n ∷ []) z i (omega (arith, place_length n)) ∙ r (omega arith)

  -- the only list with these members
  pub place_only : (z : A) (xs : List A) (n : ℕ) → length xs ≡ n → ((i : ℕ) → i < n → get_or xs i z ≡ g i) → xs ≡ by_place g n
  place_only z xs n l h = ext_get_or z xs _ (l ∙ sym (place_length n)) (λ i k. h i (omega arith) ∙ sym (place_at n i z (omega arith)))

-- the same members in each place
pub place_same : {A : Type 0} (g h : ℕ → A) (n : ℕ) → ((i : ℕ) → i < n → g i ≡ h i) → by_place g n ≡ by_place h n
place_same g h zero e = place_none g ∙ sym (place_none h)
place_same {A} g h (suc n) e =
    place_more g n
    ∙ ap₂ (λ (xs : List A) (x : A). xs ++ (x ∷ [])) (place_same g h n (λ i l. e i (omega arith))) (e n (omega arith))
    ∙ sym (place_more h n)

-- each member has a place
pub place_member : {A : Type 0} (g : ℕ → A) (n : ℕ) (x : A) → Memᴰ x (by_place g n) → (i : ℕ) × (i < n) × (x ≡ g i)
place_member g zero x m = absurd (Memᴰ.not-nil (rw (place_none g) at m))
place_member g (suc n) x m =
    ⊎_elim
    (λ k. let r = place_member g n x k in (r.0, omega (arith, r.1), r.2))
    (λ k. (n, omega arith, Memᴰ.eq_of_singleton k))
    (Memᴰ.append_cases (by_place g n) (rw (place_more g n) at m))

-- the first n members
pub place_take : {A : Type 0} (z : A) (xs : List A) (n : ℕ) → n ≤ length xs → take n xs ≡ by_place (λ i. get_or xs i z) n
place_take z xs n l = place_only _ z (take n xs) n (length-take-le n xs l) (λ i k. get_or-take n xs i z k)

-- what stands at a place is turned, as all others are
pub map_at : {A B : Type 0} (g : A → B) (y : A) (z : B) (xs : List A) (i : ℕ) → i < length xs → get_or (map g xs) i z ≡ g (get_or xs i y)
map_at g y z [] i h = absurd (omega arith)
map_at g y z (x ∷ xs) zero h = refl
map_at g y z (x ∷ xs) (suc i) h = map_at g y z xs i (le_of_suc-le-suc h)

-- a sum over members is a sum over places
pub sum_places : {A : Type 0} (z : A) (g : A → ℕ) (xs : List A) → sum_over (λ p. g (get_or xs p z)) (below (length xs)) ≡ sum_over g xs
sum_places {A} z g xs = front (length xs) (le_refl _) ∙ ap (sum_over g) (take-length xs)
  where
    front : (n : ℕ) → n ≤ length xs → sum_over (λ p. g (get_or xs p z)) (below n) ≡ sum_over g (take n xs)
    front zero h = sum_nil _
    front (suc n) h =
        sum_below _ n
        ∙ ap (λ (k : ℕ). k + g (get_or xs n z)) (front n (omega arith))
        ∙ sym (rw (take-suc xs n z (omega arith)) (sum_append g (take n xs) (get_or xs n z ∷ []) ∙ omega arith))

-- ---- rooms written at the front

module _ {A : Type 0} (new old : List A) where
  pub onto_length : length new ≤ length old → length (onto new old) ≡ length old
  unfolding onto
  onto_length h = omega (arith, length-append new (drop (length new) old), length-drop (length new) old)

  pub onto_front : (i : ℕ) (z : A) → i < length new → get_or (onto new old) i z ≡ get_or new i z
  unfolding onto
  onto_front i z h = get_or-append new (drop (length new) old) z i h

  pub onto_rest : (i : ℕ) (z : A) → length new ≤ i → get_or (onto new old) i z ≡ get_or old i z
  unfolding onto
  onto_rest i z h =
      let e : length new + (i - length new) ≡ i = omega arith in
      rw e at (get_or-append-add new (drop (length new) old) (i - length new) z ∙ get_or-drop (length new) old (i - length new) z)

  pub onto_take : take (length new) (onto new old) ≡ new
  unfolding onto
  onto_take = take-append_seam new (drop (length new) old)

  pub onto_drop : drop (length new) (onto new old) ≡ drop (length new) old
  unfolding onto
  onto_drop = drop-append_seam new (drop (length new) old)

  -- a room that is written in all its length is new
  pub onto_all : length new ≡ length old → onto new old ≡ new
  unfolding onto
  onto_all e = ap (λ (n : ℕ). new ++ drop n old) e ∙ ap (λ (l : List A). new ++ l) (drop-length old) ∙ append-nil new

  -- so a part of n entries at the front is lent and comes back new
  pub onto_part : (n : ℕ) → length new ≡ n → new ++ drop n old ≡ onto new old
  unfolding onto
  onto_part n l = rw (← l)

  -- what comes later is unchanged
  pub onto_late : (z : A) (n : ℕ) → length new ≤ n → length new ≤ length old → drop n (onto new old) ≡ drop n old
  onto_late z n h fits =
      ext_get_or z _ _ (rw (length-drop, length-drop, onto_length fits))
      (λ k l. get_or-drop n (onto new old) k z ∙ onto_rest (n + k) z (omega arith) ∙ sym (get_or-drop n old k z))

  -- the only room as long as the old with these members
  pub onto_only : (z : A) (room : List A) → length new ≤ length old → length room ≡ length old
      → ((i : ℕ) → i < length new → get_or room i z ≡ get_or new i z) → ((i : ℕ) → length new ≤ i → get_or room i z ≡ get_or old i z) → room ≡ onto new old
  onto_only z room fits l front rest = ext_get_or z room _ (l ∙ sym (onto_length fits)) (λ i k. go i (ltb i (length new)) refl)
    where
      go : (i : ℕ) (t : Bool) → ltb i (length new) ≡ t → get_or room i z ≡ get_or (onto new old) i z
      go i true e = let h = ltb-true i (length new) e in front i h ∙ sym (onto_front i z h)
      go i false e = let h = ltb-false i (length new) e in rest i h ∙ sym (onto_rest i z h)
