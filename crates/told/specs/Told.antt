-- What an answer says, and refusals in their order. A refusal is its number; 0 is none. Definitions only.
use Rattle.std.specs.Prelude.{ℕ, zero, suc, Bool, true, false, Result, Ok, Err}
use Rattle.told.specs.declared.Refusal.{Refusal}
use Rattle.told.specs.declared.Refusal.TheVariants.{Length, Limits, Table, Place, Fraction, Size, Mark, Counts, Start, End, Cell, Twice, Room, WriterRoom, Stack}

-- what an answer says: the number for no, or what was asked for
pub data Told (A : Type 0) : Type 0 where
  refused : ℕ → Told A
  says : A → Told A

-- n where the test holds, else 0
abbrev pub when : Bool → ℕ → ℕ
when true n = n
when false n = 0

-- the first of two refusals
abbrev pub first : ℕ → ℕ → ℕ
first zero b = b
first (suc a) b = suc a

-- the first refusal among f 0, f 1, .., f (n - 1)
unfoldable pub firsts : (ℕ → ℕ) → ℕ → ℕ
firsts f zero = 0
firsts f (suc n) = first (firsts f n) (f n)

-- what a call with this refusal says: its number and nothing else, or, where there is none, a
abbrev pub answer : {A : Type 0} → ℕ → A → Told A
answer zero a = says a
answer (suc n) a = refused (suc n)

-- what its lent room then holds: after a refusal what it held, else what the call puts there
abbrev pub leave : {A : Type 0} → ℕ → A → A → A
leave zero held new = new
leave (suc n) held new = held

-- the number for every refusal
abbrev pub number_of : Refusal → ℕ
number_of Length = 1
number_of Limits = 2
number_of Table = 3
number_of Place = 4
number_of Fraction = 5
number_of Size = 6
number_of Mark = 7
number_of Counts = 8
number_of Start = 9
number_of End = 10
number_of Cell = 11
number_of Twice = 12
number_of Room = 13
number_of WriterRoom = 14
number_of Stack = 15

-- what a call's answer says: the number for no, or the value
abbrev pub told : {A : Type 0} → Result A Refusal → Told A
told (Ok a) = says a
told (Err e) = refused (number_of e)

-- the same where what is said is f of the value
abbrev pub told_by : {A B : Type 0} → (A → B) → Result A Refusal → Told B
told_by f (Ok a) = says (f a)
told_by f (Err e) = refused (number_of e)

-- the number for no, or 0, of a test for refusals, or of a call whatever its value
abbrev pub refusal_in : {A : Type 0} → Result A Refusal → ℕ
refusal_in (Ok a) = 0
refusal_in (Err e) = number_of e
