-- The same members in another order: each is there still, and sums stay. Assumes nothing.
use Rattle.std.specs.Prelude.{◌≡◌, refl, ℕ, ◌+◌}
use Rattle.std.proofs.Common.{ap, ap₂, ◌∙◌, ⊎_elim, arith}
use mathlib.Core.List.Memᴰ
use mathlib.Core.List.{List, Memᴰ, Permᴰ}
use Rattle.listing.specs.Listing.{sum_over}

module _ {A : Type 0} where
  pub order_member : {x : A} {xs ys : List A} → Permᴰ xs ys → Memᴰ x xs → Memᴰ x ys
  order_member Permᴰ.nil m = m
  order_member (Permᴰ.cons e t) m = ⊎_elim (λ q. Memᴰ.head (q ∙ e)) (λ k. Memᴰ.tail (order_member t k)) (Memᴰ.cases_cons m)
  order_member (Permᴰ.swap e f) m =
      ⊎_elim (λ q. Memᴰ.tail (Memᴰ.head (q ∙ e)))
      (λ k. ⊎_elim (λ q. Memᴰ.head (q ∙ f)) (λ j. Memᴰ.tail (Memᴰ.tail j)) (Memᴰ.cases_cons k)) (Memᴰ.cases_cons m)
  order_member (Permᴰ.trans t u) m = order_member u (order_member t m)

  pub order_sum : (g : A → ℕ) {xs ys : List A} → Permᴰ xs ys → sum_over g xs ≡ sum_over g ys
  order_sum g Permᴰ.nil = refl
  order_sum g (Permᴰ.cons e t) = ap₂ ◌+◌ (ap g e) (order_sum g t)
  order_sum g (Permᴰ.swap e f) = omega (arith, ap g e, ap g f)
  order_sum g (Permᴰ.trans t u) = order_sum g t ∙ order_sum g u
