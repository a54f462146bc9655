-- Orders by comparing: of numbers, of fractions, by a key, turned round, and one after another. Assumes nothing.
use Rattle.std.specs.Prelude.{◌≡◌, refl, ◌⊎◌}
use Rattle.std.proofs.Common.{sym, ap, ap₂, ◌∙◌, inl, inr, mul_right_comm, mul-lt-mul_of_pos_right, lt_trans, arith}
use Prim.Native.Nat.compare
use Prim.Native.Nat.{ℕ, zero, suc, ◌*◌, ◌<◌, compare, Ordering}
use Rattle.fraction.specs.Rank.{order}
use Rattle.fraction.specs.RankLaws.{compare_lt, compare_gt, compare_same}
use Rattle.choosing.specs.Choosing.{and_then}

abbrev pub flip : Ordering → Ordering
flip Ordering.lt = Ordering.gt
flip Ordering.eq = Ordering.eq
flip Ordering.gt = Ordering.lt

-- f compares as an order does: both ways round, the same for equals, and from one to the next
pub record Lawful {A : Type 0} (f : A → A → Ordering) : Type 0 where
  pub back : (x y : A) → f y x ≡ flip (f x y)
  pub same : (x y z : A) → f x y ≡ Ordering.eq → f x z ≡ f y z
  pub on : (x y z : A) → f x y ≡ Ordering.gt → f y z ≡ Ordering.gt → f x z ≡ Ordering.gt

-- ---- new orders from old

pub turned : {A : Type 0} (f : A → A → Ordering) → Lawful f → Lawful (λ x y. f y x)
turned f l =
    record {
      back = λ x y. l.back y x;
      same = λ x y z e. l.back x z ∙ ap flip (sym (l.same y x z e)) ∙ sym (l.back y z);
      on = λ x y z d e. l.on z y x e d;
    }

pub keyed : {A B : Type 0} (f : A → A → Ordering) (k : B → A) → Lawful f → Lawful (λ x y. f (k x) (k y))
keyed f k l =
    record {
      back = λ x y. l.back (k x) (k y);
      same = λ x y z e. l.same (k x) (k y) (k z) e;
      on = λ x y z d e. l.on (k x) (k y) (k z) d e;
    }

flip_then : (o p : Ordering) → and_then (flip o) (flip p) ≡ flip (and_then o p)
flip_then Ordering.lt p = refl
flip_then Ordering.eq p = refl
flip_then Ordering.gt p = refl

pub then_eq : (o p : Ordering) → and_then o p ≡ Ordering.eq → (o ≡ Ordering.eq) × (p ≡ Ordering.eq)
then_eq Ordering.lt p e = (e, absurd (let z : ◌≡◌ {A = ℕ} 0 1 = cc in omega arith))
then_eq Ordering.eq p e = (refl, e)
then_eq Ordering.gt p e = (e, absurd (let z : ◌≡◌ {A = ℕ} 0 1 = cc in omega arith))

then_gt : (o p : Ordering) → and_then o p ≡ Ordering.gt → (o ≡ Ordering.gt) ⊎ ((o ≡ Ordering.eq) × (p ≡ Ordering.gt))
then_gt Ordering.lt p e = inl e
then_gt Ordering.eq p e = inr (refl, e)
then_gt Ordering.gt p e = inl refl

pub both : {A : Type 0} (f g : A → A → Ordering) → Lawful f → Lawful g → Lawful (λ x y. and_then (f x y) (g x y))
both {A} f g l m =
    record {
      back = λ x y. ap₂ and_then (l.back x y) (m.back x y) ∙ flip_then (f x y) (g x y);
      same = λ x y z e. (let d = then_eq (f x y) (g x y) e in ap₂ and_then (l.same x y z d.0) (m.same x y z d.1));
      on = λ x y z d e. step x y z (then_gt (f x y) (g x y) d) (then_gt (f y z) (g y z) e);
    }
  where
    -- z may be put for an equal y
    other : (x y z : A) → f y z ≡ Ordering.eq → f x z ≡ f x y
    other x y z e = l.back z x ∙ ap flip (sym (l.same y z x e)) ∙ sym (l.back y x)

    step : (x y z : A) → (f x y ≡ Ordering.gt) ⊎ ((f x y ≡ Ordering.eq) × (g x y ≡ Ordering.gt))
        → (f y z ≡ Ordering.gt) ⊎ ((f y z ≡ Ordering.eq) × (g y z ≡ Ordering.gt)) → and_then (f x z) (g x z) ≡ Ordering.gt
    step x y z (inl a) (inl b) = ap (λ (o : Ordering). and_then o (g x z)) (l.on x y z a b)
    step x y z (inl a) (inr b) = ap (λ (o : Ordering). and_then o (g x z)) (other x y z b.0 ∙ a)
    step x y z (inr a) (inl b) = ap (λ (o : Ordering). and_then o (g x z)) (l.same x y z a.0 ∙ b)
    step x y z (inr a) (inr b) = ap₂ and_then (l.same x y z a.0 ∙ b.0) (m.on x y z a.1 b.1)

-- ---- numbers

pub eq_only : (a b : ℕ) → compare a b ≡ Ordering.eq → a ≡ b
eq_only zero zero e = refl
eq_only zero (suc b) e = cc (compare.zero-suc b)
eq_only (suc a) zero e = cc (compare.suc-zero a)
eq_only (suc a) (suc b) e = ap suc (eq_only a b (sym (compare.suc-suc a b) ∙ e))

gt_only : (a b : ℕ) → compare a b ≡ Ordering.gt → b < a
gt_only zero zero e = absurd (let z : ◌≡◌ {A = ℕ} 0 1 = cc compare.zero-zero in omega arith)
gt_only zero (suc b) e = absurd (let z : ◌≡◌ {A = ℕ} 0 1 = cc (compare.zero-suc b) in omega arith)
gt_only (suc a) zero e = omega arith
gt_only (suc a) (suc b) e = omega (arith, gt_only a b (sym (compare.suc-suc a b) ∙ e))

compare_back : (a b : ℕ) → compare b a ≡ flip (compare a b)
compare_back zero zero = rw compare.zero-zero refl
compare_back zero (suc b) = simp (compare.zero-suc, compare.suc-zero)
compare_back (suc a) zero = simp (compare.zero-suc, compare.suc-zero)
compare_back (suc a) (suc b) = simp compare.suc-suc (compare_back a b)

pub numbers : Lawful compare
numbers =
    record {
      back = compare_back;
      same = λ x y z e. ap (λ (n : ℕ). compare n z) (eq_only x y e);
      on = λ x y z d e. compare_gt x z (lt_trans (gt_only y z e) (gt_only x y d));
    }

-- the lower number goes first
pub lower : Lawful (λ a b. compare b a)
lower = turned compare numbers

-- ---- fractions

pub record Fraction : Type 0 where
  pub count : ℕ
  pub total : ℕ
  pub above : 0 < total

scaled : (a b k : ℕ) → 0 < k → compare (a * k) (b * k) ≡ compare a b
scaled a b k h = go (compare a b) refl
  where
    go : (o : Ordering) → compare a b ≡ o → compare (a * k) (b * k) ≡ compare a b
    go Ordering.lt e = compare_lt (a * k) (b * k) (mul-lt-mul_of_pos_right (gt_only b a (compare_back a b ∙ ap flip e)) h) ∙ sym e
    go Ordering.eq e = compare_same (a * k) (b * k) (ap (λ (n : ℕ). n * k) (eq_only a b e)) ∙ sym e
    go Ordering.gt e = compare_gt (a * k) (b * k) (mul-lt-mul_of_pos_right (gt_only a b e) h) ∙ sym e

-- x against z, both over the total of y too
over : (x y z : Fraction) → compare (x.count * z.total) (z.count * x.total) ≡ compare (x.count * y.total * z.total) (z.count * y.total * x.total)
over x y z =
    sym (scaled (x.count * z.total) (z.count * x.total) y.total y.above)
    ∙ ap₂ compare (mul_right_comm x.count z.total y.total) (mul_right_comm z.count x.total y.total)

pub fractions : Lawful {A = Fraction} (λ x y. order x.count x.total y.count y.total)
unfolding order
fractions =
    record {
      back = λ x y. compare_back (x.count * y.total) (y.count * x.total);
      same = λ x y z e.
          over x y z
          ∙ ap (λ (n : ℕ). compare (n * z.total) (z.count * y.total * x.total)) (eq_only (x.count * y.total) (y.count * x.total) e)
          ∙ ap (λ (n : ℕ). compare n (z.count * y.total * x.total)) (mul_right_comm y.count x.total z.total)
          ∙ scaled (y.count * z.total) (z.count * y.total) x.total x.above;
      on = λ x y z d e.
          over x y z
          ∙ compare_gt (x.count * y.total * z.total) (z.count * y.total * x.total)
          (lt_trans (mul-lt-mul_of_pos_right (gt_only (y.count * z.total) (z.count * y.total) e) x.above)
          (rw (mul_right_comm y.count z.total x.total) (mul-lt-mul_of_pos_right (gt_only (x.count * y.total) (y.count * x.total) d) z.above)));
    }
