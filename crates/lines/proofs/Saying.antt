-- What a writer holds as the values of a domain, and as the cells of a board, are said one by one. Assumes nothing.
use Rattle.std.specs.Prelude.{◌≡◌, ◌≢◌, refl, List, [], ◌++◌, ℕ, zero, suc, ◌+◌, eqb, cond, codes, Option}
use Rattle.std.proofs.Common.{add-one, append_assoc, subst}
use Rattle.std.proofs.Math.Dec.{eqb-suc-zero}
use Rattle.std.specs.Io.KnownBytes.{Appends}
use Rattle.std.proofs.KnownBytes.{Appends-nil, Appends-trans}
use Rattle.lines.specs.Lines.{value_text, below_text, cells_text}

-- ---- values

-- before the first value of an empty domain, and of one that lists some
pub said_none : (a b : Option (List ℕ)) (domain : ℕ) → domain ≡ 0 → Appends a b (codes " NONE") → Appends a b (cond (eqb domain 0) (codes " NONE") [] ++ below_text domain 0)
unfolding below_text
said_none a b domain e h = rw e h

pub said_nothing : (a b : Option (List ℕ)) (domain : ℕ) → domain ≢ 0 → b ≡ a → Appends a b (cond (eqb domain 0) (codes " NONE") [] ++ below_text domain 0)
unfolding below_text
said_nothing a b zero e h = absurd (e refl)
said_nothing a b (suc n) e h = rw (h, eqb-suc-zero n) (Appends-nil a)

-- and one value more
pub said_value : (a b c : Option (List ℕ)) (before : List ℕ) (domain value : ℕ) → Appends a b (before ++ below_text domain value) → Appends b c (value_text domain value)
    → Appends a c (before ++ below_text domain (value + 1))
unfolding below_text
said_value a b c before domain value h k =
    rw add-one (subst (Appends a c) (append_assoc before (below_text domain value) (value_text domain value)) (Appends-trans a b c _ _ h k))

-- ---- cells

pub said_no_cell : (a : Option (List ℕ)) (cells : ℕ) (room : List ℕ) → Appends a a (cells_text cells room 0)
unfolding cells_text
said_no_cell a cells room = Appends-nil a
