-- Each layer marks where the forward, or the backward, numbers are above zero: what the loops over a row's cells have. Assumes nothing.
use Rattle.std.specs.Prelude.{◌≡◌, Bool, ◌&&◌, List, ℕ, zero, suc, ◌+◌, ◌-◌, ◌*◌, ◌≤◌, ◌<◌, ltb, eqb, length, get_or, set}
use Rattle.std.proofs.Math.Path.{refl, sym, ap, ap₂}
use Rattle.std.proofs.Common.{◌∙◌, subst, le_refl, add-one, lit<, get_or-set_same}
use Rattle.std.proofs.Math.Bool.{true, false}
use native.Mathlib.Omega.{arith}
use Rattle.std.proofs.Math.Dec.{leb}
use borrow.Author.Tests.{ne_eqb, leb-true, leb-false, ltb-true, ltb-false}
use Rattle.told.specs.Told.{when}
use Rattle.sizes.specs.Sizes.{values, row_cells, highest, sums}
use Rattle.sizes.specs.Sound.{SoundRow}
use Rattle.listing.specs.Listing.{sum_over}
use Rattle.counting.specs.Counting.{lists, listed, within, forward, backward}
use Rattle.counting.proofs.Domains.{sum_listed}
use Rattle.counting.proofs.Tables.{forward_zero, forward_suc, backward_end, backward_suc, backward_high}
use Rattle.words.specs.Words.{word_bits, set_words, bit, has, any, above_zero, Put}
use Rattle.words.specs.Bits.{bit_high, has_word, word_other, any_cong, above_sum, above_when}
use Rattle.words.specs.Sets.{put_in, put_early, put_late}
use Rattle.reach.specs.declared.inner.Way.TheVariants.{Forward, Backward}
use Rattle.reach.specs.Reach.{table_words, layer_word, layer_at, NewLayer, Marked, Clear, reached, next}

-- a table has its layers, and an empty set before each and after the last
pub table_fits : table_words ≡ layer_word row_cells + set_words + set_words
table_fits = refl

-- ---- a layer written

pub new_layer : (set : ℕ → Bool) (l t u : List ℕ) (i at : ℕ) → ((b : ℕ) → b < sums → has l b ≡ set b) → at ≡ layer_word i → Put l t u at set_words → NewLayer set t u i
new_layer set l t u i at e place put =
    let s : Put l t u (layer_word i) set_words = rw place at put in
    record {
      inside = λ b h. put_in l t u (layer_word i) s b h ∙ e b h;
      early = put_early l t u (layer_word i) s;
      late = put_late l t u (layer_word i) s;
    }

-- ---- layers marked

module _ (F : ℕ → ℕ → ℕ) (t : List ℕ) where
  pub marked_none : (i : ℕ) → Clear t → Marked F t i i
  marked_none i z = record { marks = λ k b l m n. absurd (omega arith); empty = λ k b m. z (2 * sums * k + b) }

-- one layer more, above or below those that are marked
module _ (F : ℕ → ℕ → ℕ) (set : ℕ → Bool) (t u : List ℕ) (j : ℕ) (new : (b : ℕ) → b < sums → set b ≡ above_zero (F j b)) (s : NewLayer set t u j) where
  still_empty : ((i b : ℕ) → b < sums → has t (2 * sums * i + b) ≡ false) → (i b : ℕ) → b < sums → has u (2 * sums * i + b) ≡ false
  still_empty old i b h = go (leb i j) refl
    where
      go : (e : Bool) → leb i j ≡ e → has u (2 * sums * i + b) ≡ false
      go true e = let m : i ≤ j = leb-true i j e in s.early (2 * sums * i + b) (omega arith) ∙ old i b h
      go false e = let m : j < i = leb-false i j e in s.late (2 * sums * i + b) (omega arith) ∙ old i b h

  here : (i b : ℕ) → i ≡ j → b < sums → has u (layer_at i + b) ≡ above_zero (F i b)
  here i b r k = rw r (s.inside b k ∙ new b k)

  pub marked_up : Marked F t 0 j → Marked F u 0 (j + 1)
  marked_up m = record { marks = λ i b z h k. go i b h k (ltb i j) refl; empty = still_empty m.empty }
    where
      go : (i b : ℕ) → i < j + 1 → b < sums → (e : Bool) → ltb i j ≡ e → has u (layer_at i + b) ≡ above_zero (F i b)
      go i b h k true e = let q : i < j = ltb-true i j e in s.early (layer_at i + b) (omega arith) ∙ m.marks i b (omega arith) q k
      go i b h k false e = let q : j ≤ i = ltb-false i j e in here i b (omega arith) k

  pub marked_down : (hi : ℕ) → Marked F t (j + 1) hi → Marked F u j hi
  marked_down hi m = record { marks = λ i b z h k. go i b z h k (ltb j i) refl; empty = still_empty m.empty }
    where
      go : (i b : ℕ) → j ≤ i → i < hi → b < sums → (e : Bool) → ltb j i ≡ e → has u (layer_at i + b) ≡ above_zero (F i b)
      go i b z h k true e = let q : j < i = ltb-true j i e in s.late (layer_at i + b) (omega arith) ∙ m.marks i b (omega arith) h k
      go i b z h k false e = let q : i ≤ j = ltb-false j i e in here i b (omega arith) k

-- ---- the first layer written

above_one : (t : Bool) → t ≡ above_zero (when t 1)
above_one true = refl
above_one false = refl

-- the sum 0 alone
first_forward : (ws ds : List ℕ) (b : ℕ) → bit 1 b ≡ above_zero (forward ws ds 0 b)
first_forward ws ds b = zero_only b ∙ above_one (eqb 0 b) ∙ ap above_zero (sym (forward_zero ws ds b))
  where
    zero_only : (b : ℕ) → bit 1 b ≡ eqb 0 b
    zero_only zero = refl
    zero_only (suc b) = bit_high 1 1 (suc b) (lit< tt) (omega arith) ∙ sym (ne_eqb 0 (suc b) (λ e. omega arith))

first_backward : (ws ds : List ℕ) (low high b : ℕ) → b < sums → within low high b ≡ above_zero (backward ws ds low high (length ds) b)
first_backward ws ds low high b h = above_one (within low high b) ∙ ap above_zero (sym (backward_end ws ds low high b))

-- ---- the layers that follow

-- a sum over the listed values is above zero where some listed value's term is
above_listed : (d : ℕ) (g : ℕ → ℕ) → above_zero (sum_over g (listed d)) ≡ any (λ v. lists d v && above_zero (g v)) values
above_listed d g =
    ap above_zero (sum_listed d g)
    ∙ above_sum (λ v. when (lists d v) (g v)) values
    ∙ any_cong _ _ values (λ v h. above_when (lists d v) (g v))

module _ (ws ds t : List ℕ) (i : ℕ) (in_row : i < length ds) (same : length ws ≡ length ds) where
  module _ (m : Marked (forward ws ds) t 0 (i + 1)) where
    reached_up : (s b : ℕ) → b < sums → reached t i Forward s b ≡ (leb s b && above_zero (forward ws ds i (b - s)))
    unfolding reached
    reached_up s b k = go (leb s b) refl (leb s highest) refl
      where
        go : (e : Bool) → leb s b ≡ e → (o : Bool) → leb s highest ≡ o
            → (leb s highest && has t (layer_at i - s + b)) ≡ (leb s b && above_zero (forward ws ds i (b - s)))
        go true e true o =
            let q : s ≤ b = leb-true s b e in
            let r : layer_at i - s + b ≡ layer_at i + (b - s) = omega arith in
            ap₂ (λ (y : Bool) (x : ℕ). y && has t x) o r ∙ m.marks i (b - s) (omega arith) (omega arith) (omega arith)
            ∙ sym (ap (λ (y : Bool). y && above_zero (forward ws ds i (b - s))) e)
        go true e false o =
            let q : s ≤ b = leb-true s b e in
            let r : highest < s = leb-false s highest o in
            absurd (omega arith)
        go false e true o =
            let q : b < s = leb-false s b e in
            let n : s ≤ highest = leb-true s highest o in
            let r : layer_at i - s + b ≡ 2 * sums * i + (sums - s + b) = omega arith in
            ap₂ (λ (y : Bool) (x : ℕ). y && has t x) o r ∙ m.empty i (sums - s + b) (omega arith)
            ∙ sym (ap (λ (y : Bool). y && above_zero (forward ws ds i (b - s))) e)
        go false e false o =
            ap (λ (y : Bool). y && has t (layer_at i - s + b)) o ∙ sym (ap (λ (y : Bool). y && above_zero (forward ws ds i (b - s))) e)

    -- the cell at i takes the forward layer at i to the one at i + 1
    pub next_forward : (b : ℕ) → b < sums → next t i Forward (get_or ws i 0) (get_or ds i 0) b ≡ above_zero (forward ws ds (i + 1) b)
    next_forward b k =
        any_cong _ _ values (λ v o. ap (λ (y : Bool). lists (get_or ds i 0) v && y)
        (reached_up (get_or ws i 0 * v) b k ∙ sym (above_when (leb (get_or ws i 0 * v) b) (forward ws ds i (b - get_or ws i 0 * v)))))
        ∙ sym (above_listed (get_or ds i 0) (λ v. when (leb (get_or ws i 0 * v) b) (forward ws ds i (b - get_or ws i 0 * v))))
        ∙ ap above_zero (sym (forward_suc ws ds i b in_row same) ∙ ap (λ (n : ℕ). forward ws ds n b) (sym (add-one i)))

  module _ (low high hi : ℕ) (limit : high ≤ highest) (top : i + 1 < hi) (m : Marked (backward ws ds low high) t (i + 1) hi) where
    pub reached_down : (s b : ℕ) → b < sums → reached t (i + 1) Backward s b ≡ above_zero (backward ws ds low high (suc i) (b + s))
    unfolding reached
    reached_down s b k = go (leb s highest) refl (leb (b + s) highest) refl
      where
        past : highest < b + s → above_zero (backward ws ds low high (suc i) (b + s)) ≡ false
        past q = ap above_zero (backward_high ws ds low high (suc i) (b + s) (omega arith))

        go : (e : Bool) → leb s highest ≡ e → (o : Bool) → leb (b + s) highest ≡ o
            → (leb s highest && has t (layer_at (i + 1) + s + b)) ≡ above_zero (backward ws ds low high (suc i) (b + s))
        go true e true o =
            let q : b + s ≤ highest = leb-true (b + s) highest o in
            let r : layer_at (i + 1) + s + b ≡ layer_at (i + 1) + (b + s) = omega arith in
            ap₂ (λ (y : Bool) (x : ℕ). y && has t x) e r ∙ m.marks (i + 1) (b + s) (le_refl (i + 1)) top (omega arith)
            ∙ ap (λ (n : ℕ). above_zero (backward ws ds low high n (b + s))) (add-one i)
        go true e false o =
            let q : highest < b + s = leb-false (b + s) highest o in
            let n : s ≤ highest = leb-true s highest e in
            let r : layer_at (i + 1) + s + b ≡ 2 * sums * (i + 2) + (b + s - sums) = omega arith in
            ap₂ (λ (y : Bool) (x : ℕ). y && has t x) e r ∙ m.empty (i + 2) (b + s - sums) (omega arith) ∙ sym (past q)
        go false e true o =
            let q : b + s ≤ highest = leb-true (b + s) highest o in
            let r : highest < s = leb-false s highest e in
            absurd (omega arith)
        go false e false o = ap (λ (y : Bool). y && has t (layer_at (i + 1) + s + b)) e ∙ sym (past (leb-false (b + s) highest o))

    -- the cell at i takes the backward layer at i + 1 to the one at i
    pub next_backward : (b : ℕ) → b < sums → next t (i + 1) Backward (get_or ws i 0) (get_or ds i 0) b ≡ above_zero (backward ws ds low high i b)
    next_backward b k =
        any_cong _ _ values (λ v o. ap (λ (y : Bool). lists (get_or ds i 0) v && y) (reached_down (get_or ws i 0 * v) b k))
        ∙ sym (above_listed (get_or ds i 0) (λ v. backward ws ds low high (suc i) (b + get_or ws i 0 * v)))
        ∙ ap above_zero (sym (backward_suc ws ds low high i b in_row same))

-- ---- the tables, layer by layer

-- bit b of layer i of the first is set exactly when the forward number at (i, b) is above zero
pub forward_start : (ws ds t : List ℕ) (at : ℕ) → at ≡ layer_word 0 → at < length t → Clear t → Marked (forward ws ds) (set t at 1) 0 1
forward_start ws ds t at e l z = record { marks = λ i b m h k. go i b (omega arith) k (ltb b word_bits) refl; empty = λ i b k. word_other t at 1 (2 * sums * i + b) (λ q. omega arith) ∙ z _ }
  where
    go : (i b : ℕ) → i ≡ 0 → b < sums → (c : Bool) → ltb b word_bits ≡ c → has (set t at 1) (layer_at i + b) ≡ above_zero (forward ws ds i b)
    go i b r k true q =
        let m : b < word_bits = ltb-true b word_bits q in
        let here : layer_at i + b ≡ word_bits * at + b = omega arith in
        ap (has (set t at 1)) here ∙ has_word (set t at 1) at b m ∙ ap (λ (x : ℕ). bit x b) (get_or-set_same t at 1 0 l)
        ∙ first_forward ws ds b ∙ ap (λ (n : ℕ). above_zero (forward ws ds n b)) (sym r)
    go i b r k false q =
        let m : word_bits ≤ b = ltb-false b word_bits q in
        word_other t at 1 (layer_at i + b) (λ h. omega arith) ∙ z (layer_at i + b)
        ∙ sym (bit_high 1 1 b (lit< tt) (omega arith)) ∙ first_forward ws ds b ∙ ap (λ (n : ℕ). above_zero (forward ws ds n b)) (sym r)

pub forward_more : (ws ds t u : List ℕ) (i : ℕ) → i < length ds → length ws ≡ length ds → Marked (forward ws ds) t 0 (i + 1)
    → NewLayer (next t i Forward (get_or ws i 0) (get_or ds i 0)) t u (i + 1) → Marked (forward ws ds) u 0 (i + 1 + 1)
forward_more ws ds t u i h same m s = marked_up _ _ t u (i + 1) (next_forward ws ds t i h same m) s m

-- and of layer i of the second when the backward number is
module _ (ws ds : List ℕ) (low high : ℕ) (t u : List ℕ) where
  pub backward_start : (l : List ℕ) (at : ℕ) → Clear t → ((b : ℕ) → b < sums → has l b ≡ within low high b) → at ≡ layer_word (length ds) → Put l t u at set_words
      → Marked (backward ws ds low high) u (length ds) (length ds + 1)
  backward_start l at z e place put =
      marked_down _ _ t u (length ds) (first_backward ws ds low high) (new_layer _ l t u (length ds) at e place put) (length ds + 1) (marked_none _ t (length ds + 1) z)

  pub backward_more : (i : ℕ) → 0 < i → i ≤ length ds → SoundRow ws ds low high → Marked (backward ws ds low high) t i (length ds + 1)
      → NewLayer (next t (i - 1 + 1) Backward (get_or ws (i - 1) 0) (get_or ds (i - 1) 0)) t u (i - 1) → Marked (backward ws ds low high) u (i - 1) (length ds + 1)
  backward_more i some h sound m s =
      let e : i ≡ i - 1 + 1 = omega arith in
      let n : Marked (backward ws ds low high) t (i - 1 + 1) (length ds + 1) = subst (λ (k : ℕ). Marked (backward ws ds low high) t k (length ds + 1)) e m in
      marked_down _ _ t u (i - 1) (next_backward ws ds t (i - 1) (omega arith) sound.same low high (length ds + 1) sound.limit (omega arith) n) s (length ds + 1) n
