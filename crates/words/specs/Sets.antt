-- Laws of sets of sums, word by word: what the loops over a set's words have, and a set between two empty ones. Assumes nothing.
use Rattle.std.specs.Prelude.{◌≡◌, refl, Bool, true, false, ◌&&◌, ◌||◌, List, ℕ, zero, suc, ◌+◌, ◌-◌, ◌*◌, ◌/◌, ◌%◌, ◌^◌, ◌≤◌, ◌<◌, leb, length, set, replicate}
use Rattle.std.proofs.Common.{rules, sym, ◌∙◌, not-suc-le-zero, add-zero, length-set, get_or-set_same, get_or-set_other, below_more, le-leb, leb-true, leb-false}
use Rattle.std.proofs.Math.Path.{ap, ap₂}
use native.Mathlib.Omega.{arith}
use Rattle.std.proofs.Math.ListN.{get_or}
use Rattle.std.specs.Int.Bits.{bit_and, bit_or}
use Rattle.std.specs.List.{list_any, range_with_len}
use borrow.Rule.Slice.PartMut.{put_mid}
use Rattle.std.proofs.lemmas.List.{places}
use Rattle.std.proofs.lemmas.Nat.{and_le_l}
use Rattle.std.proofs.lemmas.Bool.{lt-leb}
use Rattle.sizes.specs.Sizes.{sums, highest}
use Rattle.counting.specs.Counting.{within}
use Rattle.words.specs.Words.{word_bits, set_words, bit, has, any, above_zero, both, Joined, Put, Padded}
use Rattle.words.specs.Bits.{bit_or_lem, bit_and_lem, bit_ones, has_word, has_zeros, by_word, any_zero, any_more, any_plus, any_cong, above_bits}

-- the words of a set have a bit for each sum
pub set_fits : sums ≡ word_bits * set_words
set_fits = refl

-- ---- a set joined with a window

-- where the window's word j begins
at_word : (p j c : ℕ) → word_bits * (p / word_bits + j) + (p % word_bits + c) ≡ p + (word_bits * j + c)
at_word p j c = omega arith

module _ (a t : List ℕ) (p : ℕ) where
  pub joined_none : length a ≡ set_words → Joined a t p a 0
  joined_none e = record { size = e; done = λ i h. absurd (not-suc-le-zero h); rest = λ i h. refl }

  pub joined_more : (u : List ℕ) (j x : ℕ) → j < set_words → ((c : ℕ) → c < word_bits → bit x c ≡ has t (word_bits * (p / word_bits + j) + (p % word_bits + c)))
      → Joined a t p u j → Joined a t p (set u j (bit_or (get_or u j 0) x)) (j + 1)
  joined_more u j x h window s =
      record {
        size = length-set u j _ ∙ s.size;
        done = below_more (λ (i : ℕ). (c : ℕ) → c < word_bits → has (set u j (bit_or (get_or u j 0) x)) (word_bits * i + c) ≡ (has a (word_bits * i + c) || has t (p + (word_bits * i + c)))) j
            (λ i l c k. has_word _ i c k ∙ ap (λ (n : ℕ). bit n c) (get_or-set_other u j i _ 0 (omega arith)) ∙ sym (has_word u i c k) ∙ s.done i l c k)
            (λ c k.
            has_word _ j c k
            ∙ ap (λ (n : ℕ). bit n c) (get_or-set_same u j _ 0 (omega (arith, s.size)))
            ∙ bit_or_lem (get_or u j 0) x c
            ∙ ap₂ ◌||◌ (ap (λ (n : ℕ). bit n c) (s.rest j (omega arith)) ∙ sym (has_word a j c k)) (window c k ∙ ap (has t) (at_word p j c)));
        rest = λ i l. get_or-set_other u j i _ 0 (omega arith) ∙ s.rest i (omega arith);
      }

  pub joined_all : (u : List ℕ) → Joined a t p u set_words → (b : ℕ) → b < sums → has u b ≡ (has a b || has t (p + b))
  joined_all u s b h = by_word (λ (b : ℕ). has u b ≡ (has a b || has t (p + b))) set_words s.done b h

-- ---- what a table and a window of another have in common

-- a word and a window of 64 bits
module _ (f : List ℕ) (i : ℕ) (g : List ℕ) (q m x : ℕ) (fits : get_or f i 0 < 2 ^ word_bits) (window : (c : ℕ) → c < word_bits → bit x c ≡ has g (word_bits * q + (m + c))) where
  pub word_shares : above_zero (bit_and (get_or f i 0) x) ≡ any (both f (word_bits * i) g (word_bits * q + m)) word_bits
  word_shares =
      above_bits word_bits (bit_and (get_or f i 0) x) (omega (arith, and_le_l (get_or f i 0) x))
      ∙ any_cong _ _ word_bits (λ c k.
      bit_and_lem (get_or f i 0) x c
      ∙ sym (ap₂ ◌&&◌ (has_word f i c k) (ap (has g) (let e : word_bits * q + m + c ≡ word_bits * q + (m + c) = omega arith in e) ∙ sym (window c k))))

-- and word by word
range_any : (p : ℕ → Bool) (a n : ℕ) → list_any p (range_with_len a n) ≡ any (λ k. p (a + k)) n
range_any p a zero = sym (any_zero _)
range_any p a (suc n) =
    ap (λ (t : Bool). p a || t) (range_any p (a + 1) n)
    ∙ ap₂ ◌||◌ (sym (any_more (λ k. p (a + k)) 0 ∙ ap (λ (t : Bool). t || p (a + 0)) (any_zero _) ∙ ap p (add-zero a))) (any_cong _ _ n (λ k h. ap p (let e : a + 1 + k ≡ a + (1 + k) = omega arith in e)))
    ∙ sym (ap (any (λ k. p (a + k))) (let e : suc n ≡ 1 + n = omega arith in e) ∙ any_plus (λ k. p (a + k)) 1 n)

words_any : (p : ℕ → Bool) (n : ℕ) → any (λ j. any (λ c. p (word_bits * j + c)) word_bits) n ≡ any p (word_bits * n)
words_any p zero = any_zero _ ∙ sym (any_zero p)
words_any p (suc n) =
    ap (any (λ j. any (λ c. p (word_bits * j + c)) word_bits)) (let e : suc n ≡ n + 1 = omega arith in e)
    ∙ any_more _ n
    ∙ ap (λ (t : Bool). t || any (λ c. p (word_bits * n + c)) word_bits) (words_any p n)
    ∙ sym (ap (any p) (let e : word_bits * suc n ≡ word_bits * n + word_bits = omega arith in e) ∙ any_plus p (word_bits * n) word_bits)

pub words_share : (f : List ℕ) (a : ℕ) (g : List ℕ) (p n : ℕ)
    → list_any (λ j. any (both f (word_bits * (a + j)) g (word_bits * (p / word_bits + j) + p % word_bits)) word_bits) (range_with_len 0 n) ≡ any (both f (word_bits * a) g p) (word_bits * n)
words_share f a g p n =
    range_any _ 0 n
    ∙ any_cong _ _ n (λ j h. any_cong _ _ word_bits (λ c k.
    ap₂ (λ (x y : ℕ). has f x && has g y)
    (let e : word_bits * (a + (0 + j)) + c ≡ word_bits * a + (word_bits * j + c) = omega arith in e)
    (let e : word_bits * (p / word_bits + (0 + j)) + p % word_bits + c ≡ p + (word_bits * j + c) = omega arith in e)))
    ∙ words_any (both f (word_bits * a) g p) n

-- ---- a set written into a table

pub put_part : (l t : List ℕ) (at : ℕ) → length l ≡ set_words → at + set_words ≤ length t → Put l t (put_mid at (at + set_words - at) t l) at set_words
unfolding Put
put_part l t at e h = record {
  inside = λ k m n. search (rules, places);
  early = λ k m. search (rules, places);
  late = λ k m. search (rules, places);
}

module _ (l t u : List ℕ) (at : ℕ) (s : Put l t u at set_words) where
  pub put_in : (b : ℕ) → b < sums → has u (word_bits * at + b) ≡ has l b
  unfolding has Put
  put_in b h =
      let q : (word_bits * at + b) / word_bits ≡ at + b / word_bits = omega arith in
      let r : (word_bits * at + b) % word_bits ≡ b % word_bits = omega arith in
      let back : at + b / word_bits - at ≡ b / word_bits = omega arith in
      ap₂ (λ (i j : ℕ). bit (get_or u i 0) j) q r ∙ ap (λ (n : ℕ). bit n (b % word_bits)) (s.inside (at + b / word_bits) (omega arith) (omega arith) ∙ ap (λ (n : ℕ). get_or l n 0) back)

  pub put_early : (x : ℕ) → x < word_bits * at → has u x ≡ has t x
  unfolding has Put
  put_early x h = ap (λ (n : ℕ). bit n (x % word_bits)) (s.early (x / word_bits) (omega arith))

  pub put_late : (x : ℕ) → word_bits * at + sums ≤ x → has u x ≡ has t x
  unfolding has Put
  put_late x h = ap (λ (n : ℕ). bit n (x % word_bits)) (s.late (x / word_bits) (omega arith))

-- ---- the set of the sums from low to high

module _ (l u : List ℕ) (p : Padded l u) where
  -- a set moved up by s
  padded_up : (s b : ℕ) → s < sums → b < sums → has u (sums - s + b) ≡ (leb s b && has l (b - s))
  padded_up s b h k = go (leb s b) refl
    where
      go : (t : Bool) → leb s b ≡ t → has u (sums - s + b) ≡ (leb s b && has l (b - s))
      go true e =
          let i : s ≤ b = leb-true s b e in
          ap (has u) (let r : sums - s + b ≡ word_bits * set_words + (b - s) = omega arith in r)
          ∙ put_in l _ u set_words p.middle (b - s) (omega arith)
          ∙ sym (ap (λ (t : Bool). t && has l (b - s)) e)
      go false e =
          let i : b < s = leb-false s b e in
          put_early l _ u set_words p.middle (sums - s + b) (omega arith) ∙ has_zeros (3 * set_words) (sums - s + b)
          ∙ sym (ap (λ (t : Bool). t && has l (b - s)) e)

  -- a set of all sums moved down until the last is k
  padded_down : ((b : ℕ) → b < sums → has l b ≡ true) → (k b : ℕ) → k < sums → b < sums → has u (sums + highest - k + b) ≡ leb b k
  padded_down all k b h i = go (leb b k) refl
    where
      go : (t : Bool) → leb b k ≡ t → has u (sums + highest - k + b) ≡ leb b k
      go true e =
          let m : b ≤ k = leb-true b k e in
          ap (has u) (let r : sums + highest - k + b ≡ word_bits * set_words + (highest - k + b) = omega arith in r)
          ∙ put_in l _ u set_words p.middle (highest - k + b) (omega arith) ∙ all (highest - k + b) (omega arith) ∙ sym e
      go false e =
          let m : k < b = leb-false b k e in
          put_late l _ u set_words p.middle (sums + highest - k + b) (omega arith) ∙ has_zeros (3 * set_words) (sums + highest - k + b) ∙ sym e

-- every sum
all_sums : (b : ℕ) → b < sums → has (replicate set_words (2 ^ word_bits - 1)) b ≡ true
all_sums b h = by_word (λ (b : ℕ). has (replicate set_words (2 ^ word_bits - 1)) b ≡ true) set_words (λ j i c k. has_word _ j c k ∙ ap (λ (n : ℕ). bit n c) (ones set_words j i) ∙ bit_ones c k) b h
  where
    ones : (n j : ℕ) → j < n → get_or {A = ℕ} (replicate n (2 ^ word_bits - 1)) j 0 ≡ 2 ^ word_bits - 1
    ones zero j k = absurd (not-suc-le-zero k)
    ones (suc n) zero k = refl
    ones (suc n) (suc j) k = ones n j (omega arith)

-- all sums, moved down until the last is high - low, and then up by low
module _ (low high : ℕ) (ordered : low ≤ high) (limit : high ≤ highest) (full first shifted r : List ℕ) (pf : Padded (replicate set_words (2 ^ word_bits - 1)) full)
    (ef : (b : ℕ) → b < sums → has first b ≡ (has (replicate set_words 0) b || has full (sums + highest - (high - low) + b)))
    (ps : Padded first shifted)
    (es : (b : ℕ) → b < sums → has r b ≡ (has (replicate set_words 0) b || has shifted (sums - low + b))) where
  pub range_has : (b : ℕ) → b < sums → has r b ≡ within low high b
  range_has b h =
      es b h
      ∙ ap (λ (t : Bool). t || has shifted (sums - low + b)) (has_zeros set_words b)
      ∙ padded_up first shifted ps low b (omega arith) h
      ∙ go (leb low b) refl
    where
      first_has : (c : ℕ) → c < sums → has first c ≡ leb c (high - low)
      first_has c k =
          ef c k
          ∙ ap (λ (t : Bool). t || has full (sums + highest - (high - low) + c)) (has_zeros set_words c)
          ∙ padded_down _ full pf all_sums (high - low) c (omega arith) k

      near : low ≤ b → (t : Bool) → leb b high ≡ t → leb (b - low) (high - low) ≡ leb b high
      near l true e = let m : b ≤ high = leb-true b high e in le-leb (b - low) (high - low) (omega arith) ∙ sym e
      near l false e = let m : high < b = leb-false b high e in lt-leb (b - low) (high - low) (omega arith) ∙ sym e

      go : (t : Bool) → leb low b ≡ t → (leb low b && has first (b - low)) ≡ (leb low b && leb b high)
      go true e =
          let l : low ≤ b = leb-true low b e in
          ap (λ (t : Bool). leb low b && t) (first_has (b - low) (omega arith) ∙ near l (leb b high) refl)
      go false e = ap (λ (t : Bool). t && has first (b - low)) e ∙ sym (ap (λ (t : Bool). t && leb b high) e)
