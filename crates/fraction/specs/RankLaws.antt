-- Laws of the order of two fractions: its whole parts decide, or else the remainders, swapped. Assumes nothing.
use Rattle.std.specs.Prelude.{◌≡◌, ◌≢◌, ◌⊎◌, Bool, true, false, ltb}
use Rattle.std.proofs.Math.Path.{refl}
use Rattle.std.proofs.Common.{sym, ap, ap₂, ◌∙◌, ⊎_elim, ltb-true, ltb-false, zero-add, suc-add, zero-mul, mul_assoc, add-mul, mul-pos, div-add-mod', arith}
use Prim.Native.Nat.compare
use Prim.Native.Nat.{ℕ, zero, suc, ◌+◌, ◌*◌, ◌/◌, ◌%◌, ◌<◌, compare, Ordering}
use Rattle.std.proofs.Math.Nat.{mul_comm, lt_of_not-le, not-le_of_lt}
use Rattle.std.specs.Float.Ieee.Nearest.{div_mono}
use Rattle.fraction.specs.Rank.{order}

pub compare_lt : (a b : ℕ) → a < b → compare a b ≡ Ordering.lt
compare_lt zero zero h = absurd (omega arith)
compare_lt zero (suc b) h = compare.zero-suc b
compare_lt (suc a) zero h = absurd (omega arith)
compare_lt (suc a) (suc b) h = compare.suc-suc a b ∙ compare_lt a b (omega arith)

pub compare_gt : (a b : ℕ) → b < a → compare a b ≡ Ordering.gt
compare_gt zero b h = absurd (omega arith)
compare_gt (suc a) zero h = compare.suc-zero a
compare_gt (suc a) (suc b) h = compare.suc-suc a b ∙ compare_gt a b (omega arith)

pub compare_same : (a b : ℕ) → a ≡ b → compare a b ≡ Ordering.eq
compare_same zero zero e = compare.zero-zero
compare_same zero (suc b) e = absurd (omega arith)
compare_same (suc a) zero e = absurd (omega arith)
compare_same (suc a) (suc b) e = compare.suc-suc a b ∙ compare_same a b (omega arith)

-- the same number more on both sides
compare_add : (k a b : ℕ) → compare (k + a) (k + b) ≡ compare a b
compare_add zero a b = rw (zero-add, zero-add)
compare_add (suc k) a b = rw (suc-add, suc-add) (compare.suc-suc (k + a) (k + b) ∙ compare_add k a b)

-- where one of two numbers is 0, factors above 0 do not change how they compare
compare_scaled : (a b k m : ℕ) → 0 < k → 0 < m → (a ≡ 0) ⊎ (b ≡ 0) → compare (a * k) (b * m) ≡ compare a b
compare_scaled zero zero k m p q e = rw (zero-mul, zero-mul)
compare_scaled zero (suc b) k m p q e = rw zero-mul (compare_lt 0 (suc b * m) (mul-pos (omega arith) q) ∙ sym (compare.zero-suc b))
compare_scaled (suc a) zero k m p q e = rw zero-mul (compare_gt (suc a * k) 0 (mul-pos (omega arith) p) ∙ sym (compare.suc-zero a))
compare_scaled (suc a) (suc b) k m p q e = absurd (⊎_elim (λ z. omega arith) (λ z. omega arith) e)

module _ (c1 t1 c2 t2 : ℕ) (p1 : 0 < t1) (p2 : 0 < t2) where
  -- unequal whole parts decide
  pub by_whole : c1 / t1 ≢ c2 / t2 → order c1 t1 c2 t2 ≡ compare (c1 / t1) (c2 / t2)
  unfolding order
  by_whole h = go (ltb (c1 / t1) (c2 / t2)) refl
    where
      less : (a s b t : ℕ) → 0 < s → 0 < t → a / s < b / t → a * t < b * s
      less a s b t p q l = lt_of_not-le (λ g. not-le_of_lt l (div_mono b t a s q p g))

      go : (t : Bool) → ltb (c1 / t1) (c2 / t2) ≡ t → compare (c1 * t2) (c2 * t1) ≡ compare (c1 / t1) (c2 / t2)
      go true e =
          let l = ltb-true (c1 / t1) (c2 / t2) e in
          compare_lt (c1 * t2) (c2 * t1) (less c1 t1 c2 t2 p1 p2 l) ∙ sym (compare_lt (c1 / t1) (c2 / t2) l)
      go false e =
          let m = ltb-false (c1 / t1) (c2 / t2) e in
          let l : c2 / t2 < c1 / t1 = omega arith in
          compare_gt (c1 * t2) (c2 * t1) (less c2 t2 c1 t1 p2 p1 l) ∙ sym (compare_gt (c1 / t1) (c2 / t2) l)

  -- equal whole parts leave the remainders over the same totals
  by_rest : c1 / t1 ≡ c2 / t2 → order c1 t1 c2 t2 ≡ order (c1 % t1) t1 (c2 % t2) t2
  unfolding order
  by_rest e = rw (x, y) (compare_add (q * (t1 * t2)) (c1 % t1 * t2) (c2 % t2 * t1))
    where
      q : ℕ
      q = c1 / t1

      apart : (c t s : ℕ) → c * s ≡ c / t * (t * s) + c % t * s
      apart c t s = ap (λ (z : ℕ). z * s) (sym (div-add-mod' c t)) ∙ add-mul (c / t * t) (c % t) s ∙ ap (λ (z : ℕ). z + c % t * s) (mul_assoc (c / t) t s)

      x : c1 * t2 ≡ q * (t1 * t2) + c1 % t1 * t2
      x = apart c1 t1 t2

      y : c2 * t1 ≡ q * (t1 * t2) + c2 % t2 * t1
      y = apart c2 t2 t1 ∙ ap₂ (λ (z w : ℕ). z * w + c2 % t2 * t1) (sym e) (mul_comm t2 t1)

  -- a remainder of 0 decides
  pub by_zero : c1 / t1 ≡ c2 / t2 → (c1 % t1 ≡ 0) ⊎ (c2 % t2 ≡ 0) → order c1 t1 c2 t2 ≡ compare (c1 % t1) (c2 % t2)
  unfolding order
  by_zero e z = by_rest e ∙ compare_scaled (c1 % t1) (c2 % t2) t2 t1 p2 p1 z

  -- the swapped remainders, upside down, stand to each other as the fractions do
  pub swapped : c1 / t1 ≡ c2 / t2 → order t2 (c2 % t2) t1 (c1 % t1) ≡ order c1 t1 c2 t2
  unfolding order
  swapped e = rw (mul_comm t2, mul_comm t1) (sym (by_rest e))
