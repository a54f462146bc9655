-- The tables by their entries: that they fit, and what a room that holds one has at (i, b). Assumes nothing.
use Rattle.std.specs.Prelude.{◌≡◌, List, ℕ, suc, ◌+◌, ◌-◌, ◌*◌, ◌^◌, ◌≤◌, ◌<◌, length, get_or}
use Rattle.std.proofs.Common.{sym, ap, ap₂, ◌∙◌, le_trans, lt_of_le_of_lt, arith, lit<, length-take, get_or-take}
use Rattle.std.proofs.Math.Nat.{pow-le-pow_right}
use Rattle.sizes.specs.Sizes.{values, row_cells, sums}
use Rattle.listing.specs.Listing.{by_place, onto}
use Rattle.listing.specs.Written.{Written}
use Rattle.listing.specs.Places.{place_length, place_at, onto_take}
use Rattle.listing.specs.Writing.{written_as, written_onto}
use Rattle.counting.specs.Counting.{forward, backward}
use Rattle.counting.proofs.Tables.{forward_le, backward_le}
use Rattle.layers.specs.Tables.{at_entry, forward_table, backward_table}
use Rattle.layers.specs.Steps.{Holds}

-- every number fits 64 bits: 32 to the tenth does
pub fits : (n i : ℕ) → i ≤ row_cells → n ≤ values ^ i → n < 2 ^ 64
fits n i k h = lt_of_le_of_lt (le_trans h (pow-le-pow_right (lit< tt) {i = i} {j = row_cells} k)) (lit< tt)

module _ (ws ds : List ℕ) (most : length ds ≤ row_cells) where
  pub forward_fits : (i b : ℕ) → i ≤ length ds → forward ws ds i b < 2 ^ 64
  forward_fits i b h = fits _ i (omega arith) (forward_le ws ds i b h)

  pub backward_fits : (low high i b : ℕ) → backward ws ds low high i b < 2 ^ 64
  backward_fits low high i b = fits _ (length ds - i) (omega arith) (backward_le ws ds low high i b)

-- ---- a table that is written layer by layer

module _ (number : ℕ → ℕ → ℕ) where
  -- the entry of (i, b)
  entry : (i b : ℕ) → b < sums → at_entry number (sums * i + b) ≡ number i b
  entry i b h = ap₂ number (omega arith) (omega arith)

  -- one layer
  pub written_layer : (i : ℕ) (g : ℕ → ℕ) {t u : List ℕ} {to : ℕ} → to ≡ sums * i → ((b : ℕ) → b < sums → g b ≡ number i b)
      → Written (λ k. g (k - to)) t u to (to + sums) → Written (at_entry number) t u to (to + sums)
  written_layer i g {to = to} e same w =
      written_as (at_entry number) w (λ k l h. same (k - to) (omega arith) ∙ ap₂ number (omega arith) (omega arith))

  -- the numbers of a layer that is written
  pub layer_at_lem : (i lo hi : ℕ) (t u : List ℕ) → Written (at_entry number) t u lo hi → lo ≤ sums * i → sums * i + sums ≤ hi
      → (b : ℕ) → b < sums → get_or u (sums * i + b) 0 ≡ number i b
  layer_at_lem i lo hi t u w l h b k = w.inside (sums * i + b) (omega arith) (omega arith) ∙ entry i b k

  -- all the layers
  table_onto : (n : ℕ) (t u : List ℕ) → sums * suc n ≤ length t → length u ≡ length t → Written (at_entry number) t u 0 (sums * n + sums)
      → u ≡ onto (by_place (at_entry number) (sums * suc n)) t
  table_onto n t u fits l w =
      let e : sums * n + sums ≡ sums * suc n = omega arith in
      written_onto (at_entry number) t u (sums * suc n) fits l (rw e at w)

module _ (ws ds t u : List ℕ) (fits : sums * suc (length ds) ≤ length t) (l : length u ≡ length t) where
  pub forward_onto : Written (at_entry (forward ws ds)) t u 0 (sums * length ds + sums) → u ≡ onto (forward_table ws ds) t
  unfolding forward_table
  forward_onto w = table_onto (forward ws ds) (length ds) t u fits l w

  pub backward_onto : (low high : ℕ) → Written (at_entry (backward ws ds low high)) t u 0 (sums * length ds + sums) → u ≡ onto (backward_table ws ds low high) t
  unfolding backward_table
  backward_onto low high w = table_onto (backward ws ds low high) (length ds) t u fits l w

-- ---- a room that holds a table

-- what it has at (i, b)
holds_at : (number : ℕ → ℕ → ℕ) (n : ℕ) (room : List ℕ) → Holds (by_place (at_entry number) (sums * n)) room → (i b : ℕ) → i < n → b < sums
    → get_or room (sums * i + b) 0 ≡ number i b
holds_at number n room h i b l k =
    let e = place_length (at_entry number) (sums * n) in
    sym (get_or-take (length (by_place (at_entry number) (sums * n))) room (sums * i + b) 0 (omega arith))
    ∙ ap (λ (r : List ℕ). get_or r (sums * i + b) 0) h
    ∙ place_at (at_entry number) (sums * n) (sums * i + b) 0 (omega arith)
    ∙ entry number i b k

module _ (ws ds : List ℕ) where
  pub forward_length : length (forward_table ws ds) ≡ sums * suc (length ds)
  unfolding forward_table
  forward_length = place_length _ _

  pub forward_at : (room : List ℕ) → Holds (forward_table ws ds) room → (i b : ℕ) → i < suc (length ds) → b < sums → get_or room (sums * i + b) 0 ≡ forward ws ds i b
  unfolding forward_table
  forward_at = holds_at (forward ws ds) (suc (length ds))

  module _ (low high : ℕ) where
    pub backward_length : length (backward_table ws ds low high) ≡ sums * suc (length ds)
    unfolding backward_table
    backward_length = place_length _ _

    pub backward_at : (room : List ℕ) → Holds (backward_table ws ds low high) room → (i b : ℕ) → i < suc (length ds) → b < sums
        → get_or room (sums * i + b) 0 ≡ backward ws ds low high i b
    unfolding backward_table
    backward_at = holds_at (backward ws ds low high) (suc (length ds))

-- a room that holds a table has space for it
pub holds_room : (table room : List ℕ) → Holds table room → length table ≤ length room
holds_room table room h = omega (arith, ap length h, length-take (length table) room)

-- a room that a table was written to holds it
pub holds_onto : (table old room : List ℕ) → room ≡ onto table old → Holds table room
holds_onto table old room e = rw e (onto_take table old)
