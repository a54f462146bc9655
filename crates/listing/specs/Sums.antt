-- Laws of sums over lists, of which all the laws of counting are made. Assumes nothing.
use Rattle.std.specs.Prelude.{◌≡◌, Bool, true, false, ◌&&◌, ℕ, zero, suc, ◌+◌, ◌*◌, ◌≤◌, ◌<◌, leb, eqb, ◌≢◌, length}
use Rattle.std.proofs.Math.Path.{refl, ap, fun_ext}
use Rattle.std.proofs.Common.{sym, ap₂, ◌∙◌, add-zero, zero-add, add-mul, zero-mul, one-mul, le_of_eq, suc-mul, add-one, leb-true, leb-false, eqb-true, ne_eqb, arith, length-append}
use mathlib.Core.List.{List, [], ◌∷◌, ◌++◌, map, flat_map}
use Rattle.std.proofs.lemmas.Bool.{eqb-false}
use Rattle.told.specs.Told.{when}
use Rattle.listing.specs.Listing.{keep, only, how_many, below, sum_over}

-- ---- tests

pub never : false ≡ true → ⊥
never e = let z : ◌≡◌ {A = ℕ} 0 1 = ap (λ (t : Bool). when t 1) e in omega arith

pub and_left : (a b : Bool) → (a && b) ≡ true → a ≡ true
and_left true b e = refl
and_left false b e = e

pub and_right : (a b : Bool) → (a && b) ≡ true → b ≡ true
and_right true b e = e
and_right false b e = absurd (never e)

-- ---- a number under a test

module _ (n : ℕ) where
  pub when_both : (a b : Bool) → when (a && b) n ≡ when a (when b n)
  when_both true b = refl
  when_both false b = refl

  pub when_swap : (a b : Bool) → when a (when b n) ≡ when b (when a n)
  when_swap true b = refl
  when_swap false true = refl
  when_swap false false = refl

  pub when_times : (a : Bool) → when a 1 * n ≡ when a n
  when_times true = one-mul n
  when_times false = zero-mul n

pub when_cong : (a : Bool) (m n : ℕ) → (a ≡ true → m ≡ n) → when a m ≡ when a n
when_cong true m n e = e refl
when_cong false m n e = refl

pub when_some : (a : Bool) (n : ℕ) → 1 ≤ when a n → (a ≡ true) × (1 ≤ n)
when_some true n h = (refl, h)
when_some false n h = absurd (omega arith)

pub when_grows : (a b : Bool) (m n : ℕ) → (a ≡ true → b ≡ true) → m ≤ n → when a m ≤ when b n
when_grows true b m n f h = rw (f refl) h
when_grows false b m n f h = omega arith

-- ---- sums over any list

module _ {A : Type 0} where
  pub sum_append : (g : A → ℕ) (xs ys : List A) → sum_over g (xs ++ ys) ≡ sum_over g xs + sum_over g ys
  sum_append g [] ys = sym (zero-add _)
  sum_append g (x ∷ xs) ys = rw (sum_append g xs ys) (omega arith)

  pub sum_cong : (g h : A → ℕ) (xs : List A) → ((x : A) → g x ≡ h x) → sum_over g xs ≡ sum_over h xs
  sum_cong g h xs e = ap (λ (k : A → ℕ). sum_over k xs) (fun_ext e)

  pub sum_zero : (xs : List A) → sum_over (λ (x : A). 0) xs ≡ 0
  sum_zero [] = refl
  sum_zero (x ∷ xs) = rw (sum_zero xs)

  -- a test that does not look at the member
  pub sum_when : (t : Bool) (g : A → ℕ) (xs : List A) → sum_over (λ x. when t (g x)) xs ≡ when t (sum_over g xs)
  sum_when true g xs = refl
  sum_when false g xs = sum_zero xs

  pub sum_plus : (g h : A → ℕ) (xs : List A) → sum_over (λ x. g x + h x) xs ≡ sum_over g xs + sum_over h xs
  sum_plus g h [] = refl
  sum_plus g h (x ∷ xs) = rw (sum_plus g h xs) (omega arith)

  pub sum_times : (g : A → ℕ) (k : ℕ) (xs : List A) → sum_over (λ x. g x * k) xs ≡ sum_over g xs * k
  sum_times g k [] = sym (zero-mul k)
  sum_times g k (x ∷ xs) = rw (sum_times g k xs) (sym (add-mul _ _ k))

  -- a sum of terms of at most m
  pub sum_le : (g : A → ℕ) (m : ℕ) (xs : List A) → ((x : A) → g x ≤ m) → sum_over g xs ≤ length xs * m
  sum_le g m [] h = omega (arith, zero-mul m)
  sum_le g m (x ∷ xs) h = omega (arith, h x, sum_le g m xs h, suc-mul (length xs) m)

  -- a sum over the members that pass a test
  pub sum_keep : (g : A → ℕ) (b : Bool) (x : A) (xs : List A) → sum_over g (keep b x xs) ≡ when b (g x) + sum_over g xs
  sum_keep g true x xs = refl
  sum_keep g false x xs = sym (zero-add _)

  pub sum_only : (g : A → ℕ) (p : A → Bool) (xs : List A) → sum_over g (only p xs) ≡ sum_over (λ x. when (p x) (g x)) xs
  sum_only g p [] = refl
  sum_only g p (x ∷ xs) = sum_keep g (p x) x (only p xs) ∙ ap (λ (n : ℕ). when (p x) (g x) + n) (sum_only g p xs)

  -- a how_many is a sum of ones
  length_keep : (b : Bool) (x : A) (xs : List A) → length (keep b x xs) ≡ when b 1 + length xs
  length_keep true x xs = omega arith
  length_keep false x xs = sym (zero-add _)

  pub how_many_sum : (p : A → Bool) (xs : List A) → how_many p xs ≡ sum_over (λ x. when (p x) 1) xs
  unfolding how_many
  how_many_sum p [] = refl
  how_many_sum p (x ∷ xs) = length_keep (p x) x (only p xs) ∙ ap (λ (n : ℕ). when (p x) 1 + n) (how_many_sum p xs)

pub sum_swap : {A B : Type 0} (g : A → B → ℕ) (xs : List A) (ys : List B)
    → sum_over (λ x. sum_over (g x) ys) xs ≡ sum_over (λ y. sum_over (λ x. g x y) xs) ys
sum_swap g [] ys = sym (sum_zero ys)
sum_swap g (x ∷ xs) ys = rw (sum_swap g xs ys) (sym (sum_plus (g x) (λ y. sum_over (λ z. g z y) xs) ys))

pub sum_map : {A B : Type 0} (g : B → ℕ) (f : A → B) (xs : List A) → sum_over g (map f xs) ≡ sum_over (λ x. g (f x)) xs
sum_map g f [] = refl
sum_map g f (x ∷ xs) = ap (λ (n : ℕ). g (f x) + n) (sum_map g f xs)

pub sum_flat : {A B : Type 0} (g : B → ℕ) (f : A → List B) (xs : List A) → sum_over g (flat_map f xs) ≡ sum_over (λ x. sum_over g (f x)) xs
unfolding flat_map
sum_flat g f [] = refl
sum_flat g f (x ∷ xs) = sum_append g (f x) (flat_map f xs) ∙ ap (λ (n : ℕ). sum_over g (f x) + n) (sum_flat g f xs)

-- no more members pass a test than there are
pub length_only : {A : Type 0} (p : A → Bool) (xs : List A) → length (only p xs) ≤ length xs
length_only p [] = omega arith
length_only p (x ∷ xs) = omega (arith, length_keep (p x) x (only p xs), length_only p xs, when_grows (p x) true 1 1 (λ q. refl) (omega arith))

-- ---- sums over 0, .., n - 1

pub sum_below : (g : ℕ → ℕ) (n : ℕ) → sum_over g (below (suc n)) ≡ sum_over g (below n) + g n
unfolding below
sum_below g n = sum_append g (below n) (n ∷ []) ∙ ap (λ (k : ℕ). sum_over g (below n) + k) (add-zero (g n))

-- one turn of a loop that adds up the terms
pub sum_turn : (g : ℕ → ℕ) (n : ℕ) → sum_over g (below n) + g n ≡ sum_over g (below (n + 1))
sum_turn g n = rw add-one (sym (sum_below g n))

pub length_below : (n : ℕ) → length (below n) ≡ n
unfolding below
length_below zero = refl
length_below (suc n) = omega (arith, length-append (below n) (n ∷ []), length_below n)

pub sum_mono : (g : ℕ → ℕ) (m n : ℕ) → m ≤ n → sum_over g (below m) ≤ sum_over g (below n)
sum_mono g m zero h = le_of_eq (ap (λ (k : ℕ). sum_over g (below k)) (omega arith))
sum_mono g m (suc n) h = go (λ l. sum_mono g m n l) (leb m n) refl
  where
    go : (m ≤ n → sum_over g (below m) ≤ sum_over g (below n)) → (t : Bool) → leb m n ≡ t → sum_over g (below m) ≤ sum_over g (below (suc n))
    go r true e = omega (arith, r (leb-true m n e), sum_below g n)
    go r false e = le_of_eq (ap (λ (k : ℕ). sum_over g (below k)) (let l : n < m = leb-false m n e in omega arith))

-- a partial sum, with its next term, is at most the whole
pub sum_part : (g : ℕ → ℕ) (m n : ℕ) → m < n → sum_over g (below m) + g m ≤ sum_over g (below n)
sum_part g m n h = omega (arith, sum_mono g (suc m) n h, sum_below g m)

pub sum_cong_below : (g h : ℕ → ℕ) (n : ℕ) → ((b : ℕ) → b < n → g b ≡ h b) → sum_over g (below n) ≡ sum_over h (below n)
unfolding below
sum_cong_below g h zero e = refl
sum_cong_below g h (suc n) e = sum_below g n ∙ ap₂ ◌+◌ (sum_cong_below g h n (λ b l. e b (omega arith))) (e n (omega arith)) ∙ sym (sum_below h n)

pub sum_nil : (g : ℕ → ℕ) → sum_over g (below 0) ≡ 0
unfolding below
sum_nil g = refl

-- terms of 0 at the end add nothing
pub sum_short : (g : ℕ → ℕ) (m n : ℕ) → m ≤ n → ((b : ℕ) → m ≤ b → g b ≡ 0) → sum_over g (below m) ≡ sum_over g (below n)
sum_short g m zero h z = ap (λ (k : ℕ). sum_over g (below k)) (omega arith)
sum_short g m (suc n) h z = go (λ l. sum_short g m n l z) (leb m n) refl
  where
    go : (m ≤ n → sum_over g (below m) ≡ sum_over g (below n)) → (t : Bool) → leb m n ≡ t → sum_over g (below m) ≡ sum_over g (below (suc n))
    go r true e = let l = leb-true m n e in omega (arith, r l, sum_below g n, z n l)
    go r false e = ap (λ (k : ℕ). sum_over g (below k)) (let l : n < m = leb-false m n e in omega arith)

-- of terms under a test for one number, that number's
pub pick_none : (g : ℕ → ℕ) (v n : ℕ) → n ≤ v → sum_over (λ x. when (eqb x v) (g x)) (below n) ≡ 0
unfolding below
pick_none g v zero h = refl
pick_none g v (suc n) h =
    sum_below _ n ∙ ap₂ ◌+◌ (pick_none g v n (omega arith)) (ap (λ (t : Bool). when t (g n)) (ne_eqb n v (λ e. omega arith)))

pub pick : (g : ℕ → ℕ) (v n : ℕ) → v < n → sum_over (λ x. when (eqb x v) (g x)) (below n) ≡ g v
pick g v zero h = absurd (omega arith)
pick g v (suc n) h = sum_below _ n ∙ go (λ l. pick g v n l) (eqb n v) refl
  where
    go : (v < n → sum_over (λ x. when (eqb x v) (g x)) (below n) ≡ g v) → (t : Bool) → eqb n v ≡ t
        → sum_over (λ x. when (eqb x v) (g x)) (below n) + when (eqb n v) (g n) ≡ g v
    go r true e =
        let m : n ≡ v = eqb-true n v e in
        ap₂ ◌+◌ (pick_none g v n (omega arith)) (ap (λ (t : Bool). when t (g n)) e) ∙ zero-add (g n) ∙ ap g m
    go r false e =
        let m : n ≢ v = eqb-false n v e in
        ap₂ ◌+◌ (r (omega arith)) (ap (λ (t : Bool). when t (g n)) e) ∙ add-zero (g v)

-- a sum above 0 has a term above 0
pub sum_some : (g : ℕ → ℕ) (n : ℕ) → 1 ≤ sum_over g (below n) → (v : ℕ) × (v < n) × (1 ≤ g v)
sum_some g zero h = absurd (omega (arith, sum_nil g))
sum_some g (suc n) h = go (λ k. sum_some g n k) (eqb (g n) 0) refl
  where
    go : (1 ≤ sum_over g (below n) → (v : ℕ) × (v < n) × (1 ≤ g v)) → (t : Bool) → eqb (g n) 0 ≡ t → (v : ℕ) × (v < suc n) × (1 ≤ g v)
    go s true e = let z = eqb-true (g n) 0 e in let r = s (omega (arith, sum_below g n)) in (r.0, omega (arith, r.1), r.2)
    go s false e = let z = eqb-false (g n) 0 e in (n, omega arith, omega arith)

-- terms that are at most others, and where the sums are not less, as much
pub sum_most : (g h : ℕ → ℕ) (n : ℕ) → ((v : ℕ) → v < n → g v ≤ h v) → sum_over g (below n) ≤ sum_over h (below n)
sum_most g h zero e = omega (arith, sum_nil g)
sum_most g h (suc n) e = omega (arith, e n (omega arith), sum_most g h n (λ v l. e v (omega arith)), sum_below g n, sum_below h n)

pub sum_tight : (g h : ℕ → ℕ) (n : ℕ) → ((v : ℕ) → v < n → g v ≤ h v) → sum_over h (below n) ≤ sum_over g (below n) → (v : ℕ) → v < n → h v ≤ g v
sum_tight g h zero e s v l = absurd (omega arith)
sum_tight g h (suc n) e s v l = go (λ k. sum_tight g h n (λ u m. e u (omega arith)) (omega (arith, e n (omega arith), sum_below g n, sum_below h n)) v k) (eqb v n) refl
  where
    go : (v < n → h v ≤ g v) → (t : Bool) → eqb v n ≡ t → h v ≤ g v
    go r true q = let z : v ≡ n = eqb-true v n q in omega (arith, ap g z, ap h z, sum_most g h n (λ u k. e u (omega arith)), sum_below g n, sum_below h n)
    go r false q = let z : v ≢ n = eqb-false v n q in r (omega arith)
