-- Reachable sums, layer by layer, as bits of words. Definitions only.
-- A table's layer i holds the sums of the first i cells, or those from which the remaining cells lead to a sum from low to high.
use Rattle.std.specs.Prelude.{◌≡◌, Bool, false, not, ◌&&◌, List, ℕ, ◌+◌, ◌-◌, ◌*◌, ◌^◌, ◌≤◌, ◌<◌, leb, length}
use Rattle.told.specs.Told.{when}
use Rattle.sizes.specs.Sizes.{values, highest, sums}
use Rattle.sizes.specs.Sound.{SoundRow}
use Rattle.listing.specs.Listing.{sum_over, below}
use Rattle.counting.specs.Counting.{lists, forward, backward}
use Rattle.words.specs.Words.{word_bits, set_words, has, any, above_zero, both}
use Rattle.reach.specs.declared.inner.Way.{Way}
use Rattle.reach.specs.declared.inner.Way.TheVariants.{Forward, Backward}

-- ---- tables

-- words of a table: a layer for each number of cells from 0 to 10, an empty set before each and one after the last
abbrev pub table_words : ℕ
table_words = 184

-- the word, and the bit, at which layer i begins
abbrev pub layer_word : ℕ → ℕ
layer_word i = 2 * set_words * i + set_words

abbrev pub layer_at : ℕ → ℕ
layer_at i = word_bits * layer_word i

-- no bit is set
abbrev pub Clear : List ℕ → Type 0
Clear t = (x : ℕ) → has t x ≡ false

-- u is t with a set written over layer i
pub record NewLayer (set : ℕ → Bool) (t u : List ℕ) (i : ℕ) : Type 0 where
  pub inside : (b : ℕ) → b < sums → has u (layer_at i + b) ≡ set b
  pub early : (x : ℕ) → x < layer_at i → has u x ≡ has t x
  pub late : (x : ℕ) → layer_at i + sums ≤ x → has u x ≡ has t x

-- bit b of layer i is set exactly when the number F i b is above zero, for the layers from lo to hi - 1; between layers no bit is
pub record Marked (F : ℕ → ℕ → ℕ) (t : List ℕ) (lo hi : ℕ) : Type 0 where
  pub marks : (i b : ℕ) → lo ≤ i → i < hi → b < sums → has t (layer_at i + b) ≡ above_zero (F i b)
  pub empty : (i b : ℕ) → b < sums → has t (2 * sums * i + b) ≡ false

-- ---- sums that a cell reaches

-- where a layer that begins at p is read from, when its sums are moved up by s, or down
abbrev pub moved : Way → ℕ → ℕ → ℕ
moved Forward p s = p - s
moved Backward p s = p + s

-- a value that brings s reaches the sum b from layer i
unfoldable pub reached : List ℕ → ℕ → Way → ℕ → ℕ → Bool
reached t i way s b = leb s highest && has t (moved way (layer_at i) s + b)

-- some value of a cell of weight w and domain d does
abbrev pub next : List ℕ → ℕ → Way → ℕ → ℕ → ℕ → Bool
next t i way w d b = any (λ v. lists d v && reached t i way (w * v) b) values

-- a sum before place i, and s more, lead to a sum after it
unfoldable pub leads : List ℕ → List ℕ → ℕ → ℕ → Bool
leads f g i s = leb s highest && any (both f (layer_at i) g (layer_at (i + 1) + s)) sums

-- the tables have a use for the value v at place i of weight w
abbrev pub uses : List ℕ → List ℕ → ℕ → ℕ → ℕ → Bool
uses f g i w v = leads f g i (w * v)

-- ---- striking, value by value and cell by cell

-- of the values below v that d lists, x is the domain of those that pass a test, and y is how many fail it
pub record Parted (d : ℕ) (test : ℕ → Bool) (x y v : ℕ) : Type 0 where
  pub left : x ≡ sum_over (λ u. when (lists d u && test u) (2 ^ u)) (below v)
  pub lost : y ≡ sum_over (λ u. when (lists d u && not (test u)) 1) (below v)

-- the tables of a row
pub record Tables (ws ds : List ℕ) (low high : ℕ) (f g : List ℕ) : Type 0 where
  pub sound : SoundRow ws ds low high
  pub forwards : Marked (forward ws ds) f 0 (length ds + 1)
  pub backwards : Marked (backward ws ds low high) g 0 (length ds + 1)
