-- Laws of the bits of words and of lists of words, and of tests that some number passes. Assumes nothing.
use Rattle.std.specs.Prelude.{◌≡◌, Bool, ◌&&◌, not, List, ℕ, zero, suc, ◌+◌, ◌-◌, ◌*◌, ◌/◌, ◌%◌, ◌^◌, ◌≤◌, ◌<◌, ◌≢◌, max, min, eqb, get_or, set, replicate}
use Rattle.std.proofs.Math.Path.{refl, sym, ap, ap₂}
use Rattle.std.proofs.Common.{◌∙◌, add-zero, zero-add, add-suc, mul_assoc, mul-zero, zero-mul, suc-mul, mod-lt, lt_of_lt_of_le, add-one, lit<, get_or-set_other}
use Rattle.std.proofs.Math.Bool.{true, false, ◌||◌}
use Rattle.std.proofs.Math.Nat.{div-eq_of_lt, zero-div}
use native.Mathlib.Omega.{arith}
use Rattle.std.proofs.Math.Dec.{leb, ltb}
use Rattle.std.proofs.Math.Arith.{digits_mod}
use lib.Pow
use lib.Pow.{pow_pos, pow-add, pow_mono, split, field, mod-mod-pow, shl-shr, shr-shr, shr_lt, ones_split, ones_lt}
use Rattle.std.specs.Int.Bits.{bit_and, bit_or, and_step, or_step, shifted_even}
use Rattle.std.proofs.lemmas.Nat.{and_shr, or_shr}
use borrow.Author.Tests.{le-leb, ne_eqb, leb-true, leb-false, ltb-true, ltb-false}
use Rattle.told.specs.Told.{when}
use Rattle.listing.specs.Listing.{sum_over, below}
use Rattle.listing.specs.Sums.{sum_below}
use Rattle.words.specs.Words.{word_bits, bit, has, any, above_zero}

-- ---- tests

pub or_false : (b : Bool) → (b || false) ≡ b
or_false true = refl
or_false false = refl

or_assoc : (a b c : Bool) → ((a || b) || c) ≡ (a || (b || c))
or_assoc true b c = refl
or_assoc false b c = refl

or_comm : (a b : Bool) → (a || b) ≡ (b || a)
or_comm true true = refl
or_comm true false = refl
or_comm false b = sym (or_false b)

-- ---- the bits of a word

-- what holds of the digits 0 and 1 holds of any two digits
digits : (P : ℕ → ℕ → Type 0) → P 0 0 → P 0 1 → P 1 0 → P 1 1 → (x y : ℕ) → x < 2 → y < 2 → P x y
digits P a b c d zero zero h k = a
digits P a b c d zero (suc zero) h k = b
digits P a b c d (suc zero) zero h k = c
digits P a b c d (suc zero) (suc zero) h k = d
digits P a b c d zero (suc (suc y)) h k = absurd (omega arith)
digits P a b c d (suc zero) (suc (suc y)) h k = absurd (omega arith)
digits P a b c d (suc (suc x)) y h k = absurd (omega arith)

even : (q : ℕ) → eqb ((q * 2 + 0) % 2) 1 ≡ false
even q = ap (λ (n : ℕ). eqb n 1) (digits_mod q (lit< tt))

odd : (q : ℕ) → eqb ((q * 2 + 1) % 2) 1 ≡ true
odd q = ap (λ (n : ℕ). eqb n 1) (digits_mod q (lit< tt))

pub bit_or_lem : (x y c : ℕ) → bit (bit_or x y) c ≡ (bit x c || bit y c)
bit_or_lem x y c =
    ap (λ (n : ℕ). eqb (n % 2) 1) (or_shr x y c ∙ or_step (x / 2 ^ c) (y / 2 ^ c))
    ∙ digits (λ a b. eqb ((q * 2 + max a b) % 2) 1 ≡ (eqb a 1 || eqb b 1)) (even q) (odd q) (odd q) (odd q) (x / 2 ^ c % 2) (y / 2 ^ c % 2) (omega arith) (omega arith)
  where
    q : ℕ
    q = bit_or (x / 2 ^ c / 2) (y / 2 ^ c / 2)

pub bit_and_lem : (x y c : ℕ) → bit (bit_and x y) c ≡ (bit x c && bit y c)
bit_and_lem x y c =
    ap (λ (n : ℕ). eqb (n % 2) 1) (and_shr x y c ∙ and_step (x / 2 ^ c) (y / 2 ^ c))
    ∙ digits (λ a b. eqb ((q * 2 + min a b) % 2) 1 ≡ (eqb a 1 && eqb b 1)) (even q) (even q) (even q) (odd q) (x / 2 ^ c % 2) (y / 2 ^ c % 2) (omega arith) (omega arith)
  where
    q : ℕ
    q = bit_and (x / 2 ^ c / 2) (y / 2 ^ c / 2)

pub bit_zero : (c : ℕ) → bit 0 c ≡ false
bit_zero c = ap (λ (n : ℕ). eqb (n % 2) 1) (zero-div (2 ^ c))

-- every bit of a word of ones
pub bit_ones : (c : ℕ) → c < word_bits → bit (2 ^ word_bits - 1) c ≡ true
bit_ones c h =
    ap (λ (n : ℕ). eqb ((2 ^ n - 1) / 2 ^ c % 2) 1) (let r : word_bits ≡ (word_bits - 1 - c + 1) + c = omega arith in r)
    ∙ ap (λ (n : ℕ). eqb (n / 2 ^ c % 2) 1) (ones_split (word_bits - 1 - c + 1) c)
    ∙ ap (λ (n : ℕ). eqb (n % 2) 1) (lib.Pow.high (2 ^ (word_bits - 1 - c + 1) - 1) c (ones_lt c) ∙ ones_split (word_bits - 1 - c) 1)
    ∙ odd (2 ^ (word_bits - 1 - c) - 1)

-- a bit past a number's digits
pub bit_high : (x j c : ℕ) → x < 2 ^ j → j ≤ c → bit x c ≡ false
bit_high x j c h l = ap (λ (n : ℕ). eqb (n % 2) 1) (div-eq_of_lt (lt_of_lt_of_le h (pow_mono l)))

-- a bit of what remains, and of a number moved down or up
pub bit_mod : (x j c : ℕ) → c < j → bit (x % 2 ^ j) c ≡ bit x c
bit_mod x j c h =
    ap (λ (n : ℕ). eqb (x % 2 ^ n / 2 ^ c % 2) 1) (let e : j ≡ (j - c) + c = omega arith in e)
    ∙ ap (λ (n : ℕ). eqb (n % 2) 1) (field x (j - c) c)
    ∙ ap (λ (n : ℕ). eqb (x / 2 ^ c % 2 ^ n % 2) 1) (let e : j - c ≡ (j - c - 1) + 1 = omega arith in e)
    ∙ ap (λ (n : ℕ). eqb n 1) (mod-mod-pow (x / 2 ^ c) (j - c - 1) 1)

pub bit_down : (x t c : ℕ) → bit (x / 2 ^ t) c ≡ bit x (t + c)
bit_down x t c = ap (λ (n : ℕ). eqb (n % 2) 1) (shr-shr x t c)

up_in : (x t c : ℕ) → t ≤ c → bit (x * 2 ^ t) c ≡ bit x (c - t)
up_in x t c h =
    ap (bit (x * 2 ^ t)) (let e : c ≡ t + (c - t) = omega arith in e)
    ∙ sym (bit_down (x * 2 ^ t) t (c - t))
    ∙ ap (λ (n : ℕ). bit n (c - t)) (shl-shr x t)

up_out : (x t c : ℕ) → c < t → bit (x * 2 ^ t) c ≡ false
up_out x t c h =
    ap (λ (n : ℕ). bit (x * 2 ^ n) c) (let e : t ≡ suc (t - c - 1) + c = omega arith in e)
    ∙ ap (λ (n : ℕ). bit n c) (ap (λ (n : ℕ). x * n) (pow-add 2 (suc (t - c - 1)) c) ∙ sym (mul_assoc x (2 ^ suc (t - c - 1)) (2 ^ c)))
    ∙ ap (λ (n : ℕ). eqb (n % 2) 1) (shl-shr (x * 2 ^ suc (t - c - 1)) c)
    ∙ ap (λ (n : ℕ). eqb n 1) (shifted_even x (t - c - 1))

pub bit_up : (x t c : ℕ) → c < word_bits → bit (x * 2 ^ t % 2 ^ word_bits) c ≡ (leb t c && bit x (c - t))
bit_up x t c h = bit_mod (x * 2 ^ t) word_bits c h ∙ go (leb t c) refl
  where
    go : (b : Bool) → leb t c ≡ b → bit (x * 2 ^ t) c ≡ (leb t c && bit x (c - t))
    go true e = up_in x t c (leb-true t c e) ∙ sym (ap (λ (b : Bool). b && bit x (c - t)) e)
    go false e = up_out x t c (leb-false t c e) ∙ sym (ap (λ (b : Bool). b && bit x (c - t)) e)

-- ---- the bits of a list of words

-- bit c of word j
pub has_word : (l : List ℕ) (j c : ℕ) → c < word_bits → has l (word_bits * j + c) ≡ bit (get_or l j 0) c
unfolding has
has_word l j c h =
    let b : (word_bits * j + c) / word_bits ≡ j = omega arith in
    let r : (word_bits * j + c) % word_bits ≡ c = omega arith in
    ap₂ (λ (i k : ℕ). bit (get_or l i 0) k) b r

-- a word that is written changes no other word's bits
pub word_other : (l : List ℕ) (j x b : ℕ) → b / word_bits ≢ j → has (set l j x) b ≡ has l b
unfolding has
word_other l j x b n = ap (λ (y : ℕ). bit y (b % word_bits)) (get_or-set_other l j (b / word_bits) x 0 n)

-- what holds of each bit of the first n words holds of the first bits
pub by_word : (P : ℕ → Type 0) (n : ℕ) → ((j : ℕ) → j < n → (c : ℕ) → c < word_bits → P (word_bits * j + c)) → (b : ℕ) → b < word_bits * n → P b
by_word P n all b h =
    let e : word_bits * (b / word_bits) + b % word_bits ≡ b = omega arith in
    rw e at (all (b / word_bits) (omega arith) (b % word_bits) (omega arith))

-- a list of zeros has no bit
zeros : (n j : ℕ) → get_or {A = ℕ} (replicate n 0) j 0 ≡ 0
zeros zero j = refl
zeros (suc n) zero = refl
zeros (suc n) (suc j) = zeros n j

pub has_zeros : (n b : ℕ) → has (replicate n 0) b ≡ false
unfolding has
has_zeros n b = ap (λ (x : ℕ). bit x (b % word_bits)) (zeros n (b / word_bits)) ∙ bit_zero (b % word_bits)

-- two words, one behind the other, from bit m on: what is left of the first, and the carry of the second
module _ (x y m c : ℕ) (fits : x < 2 ^ word_bits) (hm : m < word_bits) (hc : c < word_bits) where
  carry : ℕ
  carry = (y * 2 ^ 1 % 2 ^ word_bits) * 2 ^ (word_bits - 1 - m) % 2 ^ word_bits

  carry_none : m + c < word_bits → bit carry c ≡ false
  unfolding carry
  carry_none l = bit_up (y * 2 ^ 1 % 2 ^ word_bits) (word_bits - 1 - m) c hc ∙ go (leb (word_bits - 1 - m) c) refl
    where
      go : (t : Bool) → leb (word_bits - 1 - m) c ≡ t → (leb (word_bits - 1 - m) c && bit (y * 2 ^ 1 % 2 ^ word_bits) (c - (word_bits - 1 - m))) ≡ false
      go true k =
          let k' : word_bits - 1 - m ≤ c = leb-true (word_bits - 1 - m) c k in
          let z : c - (word_bits - 1 - m) ≡ 0 = omega arith in
          ap₂ (λ (t : Bool) (i : ℕ). t && bit (y * 2 ^ 1 % 2 ^ word_bits) i) k z ∙ bit_up y 1 0 (lit< tt)
      go false k = ap (λ (t : Bool). t && bit (y * 2 ^ 1 % 2 ^ word_bits) (c - (word_bits - 1 - m))) k

  carry_bit : word_bits ≤ m + c → bit carry c ≡ bit y (m + c - word_bits)
  unfolding carry
  carry_bit l =
      let k : leb (word_bits - 1 - m) c ≡ true = le-leb (word_bits - 1 - m) c (omega arith) in
      let o : leb 1 (c - (word_bits - 1 - m)) ≡ true = le-leb 1 (c - (word_bits - 1 - m)) (omega arith) in
      let z : c - (word_bits - 1 - m) - 1 ≡ m + c - word_bits = omega arith in
      bit_up (y * 2 ^ 1 % 2 ^ word_bits) (word_bits - 1 - m) c hc
      ∙ ap (λ (t : Bool). t && bit (y * 2 ^ 1 % 2 ^ word_bits) (c - (word_bits - 1 - m))) k
      ∙ bit_up y 1 (c - (word_bits - 1 - m)) (omega arith)
      ∙ ap₂ (λ (t : Bool) (i : ℕ). t && bit y i) o z

  -- the words at q and q + 1 of a list are the list from bit 64 * q on
  pub bit_window : (l : List ℕ) (q : ℕ) → x ≡ get_or l q 0 → y ≡ get_or l (q + 1) 0
      → bit (bit_or (x / 2 ^ m) ((y * 2 ^ 1 % 2 ^ word_bits) * 2 ^ (word_bits - 1 - m) % 2 ^ word_bits)) c ≡ has l (word_bits * q + (m + c))
  unfolding carry
  bit_window l q ex ey = bit_or_lem (x / 2 ^ m) carry c ∙ ap (λ (t : Bool). t || bit carry c) (bit_down x m c) ∙ go (ltb (m + c) word_bits) refl
    where
      go : (b : Bool) → ltb (m + c) word_bits ≡ b → (bit x (m + c) || bit carry c) ≡ has l (word_bits * q + (m + c))
      go true e =
          let h : m + c < word_bits = ltb-true (m + c) word_bits e in
          ap (λ (t : Bool). bit x (m + c) || t) (carry_none h) ∙ or_false (bit x (m + c))
          ∙ ap (λ (n : ℕ). bit n (m + c)) ex ∙ sym (has_word l q (m + c) h)
      go false e =
          let h : word_bits ≤ m + c = ltb-false (m + c) word_bits e in
          let r : word_bits * q + (m + c) ≡ word_bits * (q + 1) + (m + c - word_bits) = omega arith in
          ap₂ ◌||◌ (bit_high x word_bits (m + c) fits h) (carry_bit h)
          ∙ ap (λ (n : ℕ). bit n (m + c - word_bits)) ey
          ∙ sym (ap (has l) r ∙ has_word l (q + 1) (m + c - word_bits) (omega arith))

-- ---- some number passes a test

pub any_zero : (p : ℕ → Bool) → any p 0 ≡ false
unfolding any
any_zero p = refl

pub any_more : (p : ℕ → Bool) (n : ℕ) → any p (n + 1) ≡ (any p n || p n)
unfolding any
any_more p n = rw add-one refl

pub any_cong : (p q : ℕ → Bool) (n : ℕ) → ((k : ℕ) → k < n → p k ≡ q k) → any p n ≡ any q n
unfolding any
any_cong p q zero e = refl
any_cong p q (suc n) e = ap₂ ◌||◌ (any_cong p q n (λ k h. e k (omega arith))) (e n (omega arith))

pub any_none : (n : ℕ) → any (λ k. false) n ≡ false
unfolding any
any_none zero = refl
any_none (suc n) = ap (λ (t : Bool). t || false) (any_none n)

pub any_plus : (p : ℕ → Bool) (m n : ℕ) → any p (m + n) ≡ (any p m || any (λ k. p (m + k)) n)
unfolding any
any_plus p m zero = rw add-zero (sym (or_false (any p m)))
any_plus p m (suc n) = rw add-suc (ap (λ (t : Bool). t || p (m + n)) (any_plus p m n) ∙ or_assoc (any p m) (any (λ k. p (m + k)) n) (p (m + n)))

-- where no later number passes, the first ones decide
pub any_stop : (p : ℕ → Bool) (m n : ℕ) → m ≤ n → ((k : ℕ) → m ≤ k → p k ≡ false) → any p m ≡ any p n
any_stop p m n h e =
    sym (ap (any p) (let k : n ≡ m + (n - m) = omega arith in k)
    ∙ any_plus p m (n - m)
    ∙ ap (λ (t : Bool). any p m || t) (any_cong (λ k. p (m + k)) (λ k. false) (n - m) (λ k l. e (m + k) (omega arith)) ∙ any_none (n - m))
    ∙ or_false (any p m))

-- ---- numbers above zero

pub above_suc : (n : ℕ) → above_zero (suc n) ≡ true
above_suc n = ap not (ne_eqb (suc n) 0 (λ e. omega arith))

pub above_plus : (a b : ℕ) → above_zero (a + b) ≡ (above_zero a || above_zero b)
above_plus zero b = rw zero-add refl
above_plus (suc a) b = ap not (ne_eqb (suc a + b) 0 (λ e. omega arith)) ∙ sym (ap (λ (t : Bool). t || above_zero b) (above_suc a))

pub above_times : (a b : ℕ) → above_zero (a * b) ≡ (above_zero a && above_zero b)
above_times zero b = rw zero-mul refl
above_times (suc a) zero = rw mul-zero (sym (ap (λ (t : Bool). t && false) (above_suc a)))
above_times (suc a) (suc b) = ap not (ne_eqb (suc a * suc b) 0 (λ e. omega (arith, suc-mul a (suc b)))) ∙ sym (ap₂ ◌&&◌ (above_suc a) (above_suc b))

pub above_when : (t : Bool) (n : ℕ) → above_zero (when t n) ≡ (t && above_zero n)
above_when true n = refl
above_when false n = refl

-- a sum is above zero where some term is
pub above_sum : (g : ℕ → ℕ) (n : ℕ) → above_zero (sum_over g (below n)) ≡ any (λ k. above_zero (g k)) n
unfolding any below
above_sum g zero = refl
above_sum g (suc n) = ap above_zero (sum_below g n) ∙ above_plus (sum_over g (below n)) (g n) ∙ ap (λ (t : Bool). t || above_zero (g n)) (above_sum g n)

-- and a word where some bit is set
pub above_bits : (k x : ℕ) → x < 2 ^ k → above_zero x ≡ any (bit x) k
unfolding any
above_bits zero x h = ap above_zero (let e : x ≡ 0 = omega arith in e)
above_bits (suc k) x h =
    ap above_zero (sym (split x k))
    ∙ above_plus (x / 2 ^ k * 2 ^ k) (x % 2 ^ k)
    ∙ or_comm (above_zero (x / 2 ^ k * 2 ^ k)) (above_zero (x % 2 ^ k))
    ∙ ap₂ ◌||◌
    (above_bits k (x % 2 ^ k) (mod-lt x (pow_pos k)) ∙ any_cong (bit (x % 2 ^ k)) (bit x) k (λ c l. bit_mod x k c l))
    (above_times (x / 2 ^ k) (2 ^ k) ∙ ap (λ (t : Bool). above_zero (x / 2 ^ k) && t) (ap not (ne_eqb (2 ^ k) 0 (λ e. omega (arith, pow_pos k)))) ∙ top (x / 2 ^ k) (half_lt h))
  where
    half_lt : x < 2 ^ suc k → x / 2 ^ k < 2
    half_lt l = shr_lt 1 k (let e : suc k ≡ 1 + k = omega arith in rw e at l)

    top : (n : ℕ) → n < 2 → (above_zero n && true) ≡ eqb (n % 2) 1
    top zero l = refl
    top (suc zero) l = refl
    top (suc (suc n)) l = absurd (omega arith)
