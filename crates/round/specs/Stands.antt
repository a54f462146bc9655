-- Bytes that stand in a file from a place on: taken apart, put together, and the whole file. Assumes nothing.
use Rattle.std.specs.Prelude.{◌≡◌, refl, List, [], ◌∷◌, ◌++◌, length, take, drop}
use Rattle.std.proofs.Common.{sym, ◌∙◌, add-zero, eq-or-lt_of_le, add-one, length-append, drop-cons}
use Rattle.std.proofs.Math.Logic.{⊎_elim}
use Prim.Native.Nat.{ℕ, zero, suc, ◌+◌, ◌≤◌, ◌<◌}
use native.Mathlib.Omega.{arith}
use Rattle.std.proofs.Math.Seq.{take-length, append_snoc, get_or-append_seam}
use Rattle.reader.specs.File.{byte}
use Rattle.writer.specs.Bytes.{joined}

-- the bytes stand in the file from a place on
pub data Stands (file : List ℕ) : ℕ → List ℕ → Type 0 where
  none : {at : ℕ} → Stands file at []
  more : {at x : ℕ} {xs : List ℕ} → at < length file → byte file at ≡ x → Stands file (at + 1) xs → Stands file at (x ∷ xs)

-- where f n starts, if f 0, f 1, .. stand one after the other
pub places : (f : ℕ → List ℕ) (p : ℕ → ℕ) (n : ℕ) → ((i : ℕ) → i < n → p (suc i) ≡ p i + length (f i)) → p n ≡ p 0 + length (joined f n)
unfolding joined
places f p zero h = sym (add-zero (p 0))
places f p (suc n) h =
    let a = places f p n (λ i l. h i (omega arith)) in
    let b = h n (omega arith) in
    rw length-append (omega arith)

module _ {file : List ℕ} where
  -- one byte more in front
  pub byte_more : {at x : ℕ} {xs : List ℕ} → at < length file → byte file at ≡ x → Stands file (at + 1) xs → Stands file at (x ∷ xs)
  byte_more l e s = more l e s

  -- one run after another, and taken apart again
  pub both : {at : ℕ} {xs ys : List ℕ} → Stands file at xs → Stands file (at + length xs) ys → Stands file at (xs ++ ys)
  both {at} none t = rw add-zero at t
  both {at} (more {xs = xs} l e s) t =
      let q : at + suc (length xs) ≡ at + 1 + length xs = omega arith in
      more l e (both s (rw q at t))

  pub front : (xs ys : List ℕ) {at : ℕ} → Stands file at (xs ++ ys) → Stands file at xs
  front [] ys s = none
  front (x ∷ xs) ys (more l e s) = more l e (front xs ys s)

  pub back : (xs ys : List ℕ) {at : ℕ} → Stands file at (xs ++ ys) → Stands file (at + length xs) ys
  back [] ys s = rw add-zero s
  back (x ∷ xs) ys {at} (more l e s) =
      let q : at + suc (length xs) ≡ at + 1 + length xs = omega arith in
      rw q (back xs ys s)

  -- f 0, f 1, .. one after the other, each at its row_place, and taken apart again
  module _ (f : ℕ → List ℕ) where
    pub each : (p : ℕ → ℕ) (n : ℕ) → ((i : ℕ) → i < n → p (suc i) ≡ p i + length (f i)) → ((i : ℕ) → i < n → Stands file (p i) (f i)) → Stands file (p 0) (joined f n)
    unfolding joined
    each p zero h s = none
    each p (suc n) h s =
        let a = places f p n (λ i l. h i (omega arith)) in
        both (each p n (λ i l. h i (omega arith)) (λ i l. s i (omega arith))) (rw a at (s n (omega arith)))

    pub one : {at : ℕ} (n i : ℕ) → i < n → Stands file at (joined f n) → Stands file (at + length (joined f i)) (f i)
    unfolding joined
    one zero i l s = absurd (omega arith)
    one (suc n) i l s =
        let le : i ≤ n = omega arith in
        ⊎_elim (λ e. rw e (back (joined f n) (f n) s)) (λ h. one n i h (front (joined f n) (f n) s)) (eq-or-lt_of_le le)

  run : {at : ℕ} {xs : List ℕ} → Stands file at xs → take (length xs) (drop at file) ≡ xs
  run none = refl
  run {at} (more {xs = xs} l e s) = rw (drop-cons file at 0 l, e) (rw (← add-one, run s))

  -- what stands from the front and is as long as the file is the file
  pub whole : {xs : List ℕ} → Stands file 0 xs → length xs ≡ length file → xs ≡ file
  whole s e = sym (run s) ∙ rw e (take-length file)

behind : (xs ys : List ℕ) → Stands (xs ++ ys) (length xs) ys
behind xs [] = none
behind xs (y ∷ ys) =
    let n : length (xs ++ (y ∷ [])) ≡ length xs + 1 = length-append xs (y ∷ []) in
    let l = length-append xs (y ∷ ys) in
    more {at = length xs} (omega arith) (get_or-append_seam xs y ys 0) (rw (append_snoc, n) at (behind (xs ++ (y ∷ [])) ys))

-- and a file stands in itself
pub itself : (file : List ℕ) → Stands file 0 file
itself file = behind [] file
