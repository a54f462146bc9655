-- What the answer of a choice says, and what its tables then hold. Definitions only.
use Rattle.std.specs.Prelude.{List, ℕ, replicate}
use Rattle.sizes.specs.Sizes.{table_size}
use Rattle.listing.specs.Listing.{onto}
use Rattle.choosing.specs.Choosing.{Choice, dead, settled, advise}
use Rattle.choose.specs.declared.Advice.{Advice}
use Rattle.choose.specs.declared.Advice.TheVariants.{Dead, Settled, Advise}

-- the word and the values for every case of the answer
abbrev pub told : Advice → Choice
told Dead = dead
told Settled = settled
told (Advise cell value row count total share) = advise (record { row = row; cell = cell; value = value; count = count; total = total }) share

-- a table whose first 5,632 entries are made zero; the rest is unchanged
unfoldable pub cleared : List ℕ → List ℕ
cleared table = onto (replicate table_size 0) table
