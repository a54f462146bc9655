-- Lists by their members and by their places, and sums over them. Definitions only.
use Rattle.std.specs.Prelude.{Bool, true, false, List, [], ◌∷◌, ◌++◌, map, ℕ, zero, suc, ◌+◌, length, drop}

abbrev pub keep : {A : Type 0} → Bool → A → List A → List A
keep true x xs = x ∷ xs
keep false x xs = xs

-- the members that pass a test
abbrev pub only : {A : Type 0} → (A → Bool) → List A → List A
only p [] = []
only p (x ∷ xs) = keep (p x) x (only p xs)

-- how many members pass a test
unfoldable pub how_many : {A : Type 0} → (A → Bool) → List A → ℕ
how_many p xs = length (only p xs)

-- the sum of g x over the members x
abbrev pub sum_over : {A : Type 0} → (A → ℕ) → List A → ℕ
sum_over g [] = 0
sum_over g (x ∷ xs) = g x + sum_over g xs

-- 0, 1, .., n - 1
unfoldable pub below : ℕ → List ℕ
below zero = []
below (suc n) = below n ++ (n ∷ [])

-- g 0, g 1, .., g (n - 1)
unfoldable pub by_place : {A : Type 0} → (ℕ → A) → ℕ → List A
by_place g n = map g (below n)

-- a room that held old after new was written at its front; the rest is unchanged
unfoldable pub onto : {A : Type 0} → List A → List A → List A
onto new old = new ++ drop (length new) old
