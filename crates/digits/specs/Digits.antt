-- The number that a word spells, digit by digit. Definitions only.
use Rattle.std.specs.Prelude.{List, ℕ, zero, suc, ◌+◌, ◌*◌, ◌%◌, ◌-◌, ◌^◌, min, length, get_or}

-- a number with one digit more, at most 2 to the 64th less 1
abbrev pub with_digit : ℕ → ℕ → ℕ
with_digit n digit = min (10 * n + digit % 16) (2 ^ 64 - 1)

-- the number that the first i bytes spell, and the whole word
unfoldable pub spelled_to : List ℕ → ℕ → ℕ
spelled_to word zero = 0
spelled_to word (suc i) = with_digit (spelled_to word i) (get_or word i 0)

abbrev pub spelled : List ℕ → ℕ
spelled word = spelled_to word (length word)
