-- Sets of sums as bits of 64-bit words. Definitions only.
use Rattle.std.specs.Prelude.{◌≡◌, Bool, false, not, ◌&&◌, ◌||◌, List, ℕ, zero, suc, ◌+◌, ◌-◌, ◌*◌, ◌/◌, ◌%◌, ◌≤◌, ◌<◌, eqb, length, get_or, replicate}
use Rattle.listing.specs.Written.{Written}
use Rattle.counting.specs.Counting.{lists}

-- bits in a word
abbrev pub word_bits : ℕ
word_bits = 64

-- words in a set of the sums 0 to 511
abbrev pub set_words : ℕ
set_words = 8

-- bit c of a word is set, as in a domain that lists c
abbrev pub bit : ℕ → ℕ → Bool
bit x c = lists x c

-- bit b of a list of words is set
unfoldable pub has : List ℕ → ℕ → Bool
has t b = bit (get_or t (b / word_bits) 0) (b % word_bits)

-- some number below n passes a test
unfoldable pub any : (ℕ → Bool) → ℕ → Bool
any p zero = false
any p (suc n) = any p n || p n

-- a number is above zero
abbrev pub above_zero : ℕ → Bool
above_zero n = not (eqb n 0)

-- f from bit p on and g from bit q on both have bit b
abbrev pub both : List ℕ → ℕ → List ℕ → ℕ → ℕ → Bool
both f p g q b = has f (p + b) && has g (q + b)

-- u is a set with the first j words of the bits of t from p on
pub record Joined (set t : List ℕ) (p : ℕ) (u : List ℕ) (j : ℕ) : Type 0 where
  pub size : length u ≡ set_words
  pub done : (i : ℕ) → i < j → (c : ℕ) → c < word_bits → has u (word_bits * i + c) ≡ (has set (word_bits * i + c) || has t (p + (word_bits * i + c)))
  pub rest : (i : ℕ) → j ≤ i → get_or u i 0 ≡ get_or set i 0

-- u is t with the first n words of a set written from word at on
unfoldable pub Put : List ℕ → List ℕ → List ℕ → ℕ → ℕ → Type 0
Put set t u at n = Written (λ k. get_or set (k - at) 0) t u at (at + n)

-- u is a set between two empty ones
pub record Padded (set u : List ℕ) : Type 0 where
  pub long : length u ≡ 3 * set_words
  pub middle : Put set (replicate (3 * set_words) 0) u set_words set_words
