-- Laws of lists by their members: of 0 to n - 1, of the members that pass a test, of one list for each member, and of a list's places. Assumes nothing.
use Rattle.std.specs.Prelude.{◌≡◌, ◌⊎◌, Bool, ltb, get_or}
use Rattle.std.proofs.Math.Path.{refl, sym, ap, ap₂}
use Rattle.std.proofs.Common.{◌∙◌, inl, inr, le_of_suc-le-suc, arith, ltb-true, ltb-false}
use Rattle.std.proofs.Math.Logic.{⊎_elim}
use Rattle.std.proofs.Math.Bool.{true, false}
use mathlib.Core.List.Memᴰ
use mathlib.Core.List.{List, [], ◌∷◌, ◌++◌, map, flat_map, append-nil, append_assoc, Memᴰ}
use Prim.Native.Nat.{ℕ, zero, suc, ◌<◌}
use Rattle.std.proofs.Math.ListN.{length}
use Rattle.listing.specs.Listing.{keep, only, how_many, below}
use Rattle.listing.specs.Sums.{never}

-- a list with no members is empty
pub no_members : {A : Type 0} (xs : List A) → ((x : A) → Memᴰ x xs → ⊥) → xs ≡ []
no_members [] h = refl
no_members (x ∷ xs) h = absurd (h x (Memᴰ.head refl))

-- ---- 0, .., n - 1

pub in_below : (n k : ℕ) → k < n → Memᴰ k (below n)
unfolding below
in_below zero k h = absurd (omega arith)
in_below (suc n) k h = go (λ l. in_below n k l) (ltb k n) refl
  where
    go : (k < n → Memᴰ k (below n)) → (t : Bool) → ltb k n ≡ t → Memᴰ k (below n ++ (n ∷ []))
    go r true e = Memᴰ.append_left (n ∷ []) (r (ltb-true k n e))
    go r false e = let l = ltb-false k n e in Memᴰ.append_right (below n) (Memᴰ.head (omega arith))

pub below_small : (n k : ℕ) → Memᴰ k (below n) → k < n
unfolding below
below_small zero k m = absurd (Memᴰ.not-nil m)
below_small (suc n) k m =
    ⊎_elim (λ l. omega (arith, below_small n k l)) (λ l. omega (arith, Memᴰ.eq_of_singleton l)) (Memᴰ.append_cases (below n) m)

-- ---- the members that pass a test

module _ {A : Type 0} (p : A → Bool) where
  keep_in : (t : Bool) (x y : A) (xs : List A) → Memᴰ y (keep t x xs) → ((t ≡ true) × (y ≡ x)) ⊎ Memᴰ y xs
  keep_in true x y xs m = ⊎_elim (λ e. inl (refl, e)) (λ k. inr k) (Memᴰ.cases_cons m)
  keep_in false x y xs m = inr m

  pub only_in : (xs : List A) (x : A) → Memᴰ x (only p xs) → (p x ≡ true) × Memᴰ x xs
  only_in [] x m = absurd (Memᴰ.not-nil m)
  only_in (y ∷ xs) x m =
      ⊎_elim (λ k. (ap p k.1 ∙ k.0, Memᴰ.head k.1)) (λ k. (let r = only_in xs x k in (r.0, Memᴰ.tail r.1))) (keep_in (p y) y x (only p xs) m)

  pub in_only : (xs : List A) (x : A) → p x ≡ true → Memᴰ x xs → Memᴰ x (only p xs)
  in_only [] x e m = absurd (Memᴰ.not-nil m)
  in_only (y ∷ xs) x e m = go (λ k. in_only xs x e k) (p y) refl
    where
      go : (Memᴰ x xs → Memᴰ x (only p xs)) → (t : Bool) → p y ≡ t → Memᴰ x (keep t y (only p xs))
      go r true q = ⊎_elim (λ z. Memᴰ.head z) (λ k. Memᴰ.tail (r k)) (Memᴰ.cases_cons m)
      go r false q = ⊎_elim (λ z. absurd (never (sym q ∙ ap p (sym z) ∙ e))) r (Memᴰ.cases_cons m)

  pub only_append : (xs ys : List A) → only p (xs ++ ys) ≡ only p xs ++ only p ys
  only_append [] ys = refl
  only_append (x ∷ xs) ys = go (p x) (only_append xs ys)
    where
      go : (t : Bool) → only p (xs ++ ys) ≡ only p xs ++ only p ys → keep t x (only p (xs ++ ys)) ≡ keep t x (only p xs) ++ only p ys
      go true e = ap (λ (l : List A). x ∷ l) e
      go false e = e

  -- none passes exactly where each fails
  pub none_pass : (xs : List A) → ((x : A) → Memᴰ x xs → p x ≡ false) → how_many p xs ≡ 0
  unfolding how_many
  none_pass [] h = refl
  none_pass (x ∷ xs) h = rw (h x (Memᴰ.head refl)) (none_pass xs (λ y m. h y (Memᴰ.tail m)))

  pub each_fails : (xs : List A) → how_many p xs ≡ 0 → (x : A) → Memᴰ x xs → p x ≡ false
  unfolding how_many
  each_fails [] e x m = absurd (Memᴰ.not-nil m)
  each_fails (y ∷ xs) e x m = go (λ z n. each_fails xs z x n) (p y) refl e
    where
      go : (length (only p xs) ≡ 0 → Memᴰ x xs → p x ≡ false) → (t : Bool) → p y ≡ t → length (keep t y (only p xs)) ≡ 0 → p x ≡ false
      go rest true q z = absurd (omega arith)
      go rest false q z = ⊎_elim (λ same. ap p same ∙ q) (rest z) (Memᴰ.cases_cons m)

-- ---- one list for each member

module _ {A B : Type 0} (f : A → List B) where
  flat_append : (xs ys : List A) → flat_map f (xs ++ ys) ≡ flat_map f xs ++ flat_map f ys
  unfolding flat_map
  flat_append [] ys = refl
  flat_append (x ∷ xs) ys = ap (λ l. f x ++ l) (flat_append xs ys) ∙ sym (append_assoc (f x) (flat_map f xs) (flat_map f ys))

  pub flat_in : (xs : List A) (y : B) → Memᴰ y (flat_map f xs) → (x : A) × Memᴰ x xs × Memᴰ y (f x)
  unfolding flat_map
  flat_in [] y m = absurd (Memᴰ.not-nil m)
  flat_in (x ∷ xs) y m =
      ⊎_elim (λ k. (x, Memᴰ.head refl, k)) (λ k. (let r = flat_in xs y k in (r.0, Memᴰ.tail r.1, r.2))) (Memᴰ.append_cases (f x) m)

  pub in_flat : (xs : List A) (x : A) (y : B) → Memᴰ x xs → Memᴰ y (f x) → Memᴰ y (flat_map f xs)
  unfolding flat_map
  in_flat [] x y m k = absurd (Memᴰ.not-nil m)
  in_flat (z ∷ xs) x y m k =
      ⊎_elim (λ e. Memᴰ.append_left (flat_map f xs) (rw e at k)) (λ n. Memᴰ.append_right (f z) (in_flat xs x y n k)) (Memᴰ.cases_cons m)

module _ {B : Type 0} (f : ℕ → List B) where
  pub flat_none : flat_map f (below 0) ≡ []
  unfolding below flat_map
  flat_none = refl

  pub flat_more : (n : ℕ) → flat_map f (below (suc n)) ≡ flat_map f (below n) ++ f n
  unfolding below flat_map
  flat_more n = flat_append f (below n) (n ∷ []) ∙ ap (λ l. flat_map f (below n) ++ l) (append-nil (f n))

  pub flat_same : (g : ℕ → List B) (n : ℕ) → ((k : ℕ) → k < n → f k ≡ g k) → flat_map f (below n) ≡ flat_map g (below n)
  unfolding below flat_map
  flat_same g zero e = refl
  flat_same g (suc n) e =
      flat_append f (below n) (n ∷ []) ∙ ap₂ ◌++◌ (flat_same g n (λ k l. e k (omega arith))) (ap (λ l. l ++ []) (e n (omega arith))) ∙ sym (flat_append g (below n) (n ∷ []))

-- a value for each member that passes a test
pub map_only : {A B : Type 0} (p : A → Bool) (g : A → B) (xs : List A) → map g (only p xs) ≡ flat_map (λ x. keep (p x) (g x) []) xs
unfolding flat_map
map_only p g [] = refl
map_only p g (x ∷ xs) = go (p x) (map_only p g xs)
  where
    go : (t : Bool) → map g (only p xs) ≡ flat_map (λ y. keep (p y) (g y) []) xs → map g (keep t x (only p xs)) ≡ keep t (g x) [] ++ flat_map (λ y. keep (p y) (g y) []) xs
    go true e = ap (λ l. g x ∷ l) e
    go false e = e

-- ---- places

module _ {A : Type 0} (z : A) where
  pub at_in : (xs : List A) (i : ℕ) → i < length xs → Memᴰ (get_or xs i z) xs
  at_in [] i h = absurd (omega arith)
  at_in (x ∷ xs) zero h = Memᴰ.head refl
  at_in (x ∷ xs) (suc i) h = Memᴰ.tail (at_in xs i (le_of_suc-le-suc h))

  pub in_at : (xs : List A) (x : A) → Memᴰ x xs → (i : ℕ) × (i < length xs) × (get_or xs i z ≡ x)
  in_at [] x m = absurd (Memᴰ.not-nil m)
  in_at (y ∷ xs) x m =
      ⊎_elim (λ e. (0, omega arith, sym e)) (λ k. (let r = in_at xs x k in (suc r.0, omega (arith, r.1), r.2))) (Memᴰ.cases_cons m)
