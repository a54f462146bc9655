-- "No second answer fits": the statement, over a contract as the check makes it of a function. Definitions only.
use Rattle.std.specs.Prelude.{◌≡◌, List, ℕ}
use contract.Lifetimes.{Lfts}
use denote.Triple.Clauses.{AtExit}
use borrow.Fn.Kinds.{ParamKind, ResultKind, Dens, res_t, ended_of, Out}

-- Two ends of a call on the same arguments that both meet its `ensures`, Post, have the same answer and the same contents of the lent rooms.
-- `rooms` picks the rooms from the parameters at exit: `λ κs e. e.1.0.now` is the second parameter's, and `λ κs e. tt {0}` is none.
abbrev pub NoSecondAnswer : (n : ℕ) (ps : List (ParamKind n)) (r : ResultKind n) → Out n ps r → {B : Type 0} → ((κs : Lfts n) → AtExit (ended_of n ps r) κs → B) → Type 0
NoSecondAnswer n ps r Post {B} rooms =
    (κs : Lfts n) (a : Dens κs ps) (x y : (res_t r κs).Denot) (e f : AtExit (ended_of n ps r) κs)
    → Post κs a x e → Post κs a y f → (x ≡ y) × (rooms κs e ≡ rooms κs f)
