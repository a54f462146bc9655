-- What a loop over a word's digits knows. Assumes nothing.
use Rattle.std.specs.Prelude.{◌≡◌, refl, List, ℕ, ◌+◌, get_or}
use Rattle.std.proofs.Common.{add-one}
use Rattle.digits.specs.Digits.{with_digit, spelled_to}

-- at its start, and one byte more
pub spelled_start : (word : List ℕ) → 0 ≡ spelled_to word 0
unfolding spelled_to
spelled_start word = refl

pub spelled_next : (word : List ℕ) (i n m : ℕ) → n ≡ spelled_to word i → m ≡ with_digit n (get_or word i 0) → m ≡ spelled_to word (i + 1)
unfolding spelled_to
spelled_next word i n m e h = rw (add-one, ← e) h
