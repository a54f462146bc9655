-- Tables cleared, and kept past what they need; an answer is read back from what it says. Assumes nothing.
use Rattle.std.specs.Prelude.{Option, None, Some, IfSome, [], ◌∷◌, Bool, ◌||◌, eqb, nat_eq, ◌≡◌, refl, List, ◌++◌, ℕ, suc, ◌*◌, ◌≤◌, length, drop, take, replicate}
use Rattle.std.proofs.Common.{ap, ◌∙◌, arith}
use Rattle.std.proofs.lemmas.List.{length-replicate}
use Rattle.sizes.specs.Sizes.{row_cells, sums, table_size}
use Rattle.std.proofs.Math.Seq.{length-take-le}
use Rattle.listing.specs.Listing.{onto}
use Rattle.listing.specs.Places.{onto_late}
use Rattle.std.specs.List.{list_any}
use Rattle.choosing.specs.Choosing.{Choice, dead, settled, advise, some_empty}
use Rattle.beat.specs.declared.Candidate.{Candidate}
use Rattle.choose.specs.declared.Advice.{Advice}
use Rattle.choose.specs.declared.Advice.TheVariants.{Dead, Settled, Advise}
use Rattle.choose.specs.Advice.{told, cleared}
use Rattle.choose.specs.Steps.{SameRest}

-- ---- tables

zeros_onto : (n : ℕ) (zeros table : List ℕ) → n ≤ length table → zeros ≡ replicate (length (take n table)) 0 → zeros ++ drop n table ≡ onto (replicate n 0) table
unfolding onto
zeros_onto n zeros table room e =
    rw (length-replicate {A = ℕ} n 0) (ap (λ (z : List ℕ). z ++ drop n table) (e ∙ ap (λ (m : ℕ). replicate m 0) (length-take-le n table room)))

-- zeros in its first entries
pub fill_clears : (table zeros : List ℕ) → table_size ≤ length table → zeros ≡ replicate (length (take table_size table)) 0 → zeros ++ drop table_size table ≡ cleared table
unfolding cleared
fill_clears table zeros = zeros_onto table_size zeros table

-- clearing a table that was kept
kept_onto : (zeros table used : List ℕ) (n : ℕ) → length zeros ≡ n → drop n used ≡ drop n table → onto zeros used ≡ onto zeros table
unfolding onto
kept_onto zeros table used n l h = ap (λ (l : List ℕ). zeros ++ l) (rw l h)

pub cleared_kept : (table used new : List ℕ) → SameRest table used → new ≡ cleared used → new ≡ cleared table
unfolding cleared
cleared_kept table used new h e = e ∙ kept_onto (replicate table_size 0) table used table_size (length-replicate {A = ℕ} table_size 0) h

-- filling one keeps it
pub filled_kept : (numbers table new : List ℕ) (n : ℕ) → length numbers ≡ sums * suc n → n ≤ row_cells → table_size ≤ length table → new ≡ onto numbers table → SameRest table new
filled_kept numbers table new n l most room e = ap (drop table_size) e ∙ onto_late numbers table 0 table_size (omega arith) (omega arith)

-- ---- empty domains

pub any_empty : (d : List ℕ) → some_empty d ≡ list_any (λ e. nat_eq e 0) d
unfolding some_empty
any_empty [] = refl
any_empty (e ∷ d) = ap (λ (t : Bool). eqb e 0 || t) (any_empty d)

-- ---- answers

abbrev pub advice_of : Choice → Advice
advice_of dead = Dead
advice_of settled = Settled
advice_of (advise x share) = Advise x.cell x.value x.row x.count x.total share

pub advice_back : (a : Advice) → advice_of (told a) ≡ a
advice_back Dead = refl
advice_back Settled = refl
advice_back (Advise cell value row count total share) = refl

-- what holds of each best candidate
pub each_leader : (P : Candidate → Type 0) (leader : Option Candidate) → ((x : Candidate) → leader ≡ Some x → P x) → IfSome leader P
each_leader P None h = tt
each_leader P (Some x) h = h x refl
