-- How two fractions stand to each other, and what `rank` says of them. Definitions only.
use Prim.Native.Nat.{ℕ, ◌*◌, compare, Ordering}
use Rattle.std.specs.Prelude.{eqb, Result, Ok, Err}
use Rattle.std.specs.declared.cmp.Ordering.{Ordering as Ranking}
use Rattle.std.specs.declared.cmp.Ordering.TheVariants.{Less, Equal, Greater}
use Rattle.told.specs.declared.Refusal.{Refusal}
use Rattle.told.specs.Told.{Told, refused, says, when, first, answer, number_of}

-- below, equal or above, for every case of the code's order
abbrev pub word : Ranking → Ordering
word Less = Ordering.lt
word Equal = Ordering.eq
word Greater = Ordering.gt

-- the number for no, or the word, for every case of the answer
abbrev pub told : Result Ranking Refusal → Told Ordering
told (Ok o) = says (word o)
told (Err e) = refused (number_of e)

-- c1 / t1 stands to c2 / t2 as c1 * t2 to c2 * t1
unfoldable pub order : ℕ → ℕ → ℕ → ℕ → Ordering
order c1 t1 c2 t2 = compare (c1 * t2) (c2 * t1)

-- 5: a fraction's total is 0
abbrev pub rank_refuses : ℕ → ℕ → ℕ
rank_refuses t1 t2 = first (when (eqb t1 0) 5) (when (eqb t2 0) 5)

-- what `rank` says
abbrev pub rank_says : ℕ → ℕ → ℕ → ℕ → Told Ordering
rank_says c1 t1 c2 t2 = answer (rank_refuses t1 t2) (order c1 t1 c2 t2)
