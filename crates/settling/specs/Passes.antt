-- What one pass leaves: no new value, every consistent family within, and, where it strikes nothing, a consistent family. Assumes nothing.
use Rattle.std.specs.Prelude.{◌≡◌, refl, List, [], ◌∷◌, ◌++◌, ℕ, length, get_or}
use Rattle.std.proofs.Common.{◌∙◌, ⊎_elim}
use mathlib.Core.List.Memᴰ
use Rattle.counting.specs.Counting.{NoNewValue}
use Rattle.settling.specs.Settling.{Row, ◌∈◌, Loose, Once, Domains, visit, pass, Consistent}
use Rattle.settling.specs.Families.{within_self, within_trans}
use Rattle.settling.specs.Visits.{visit_length, visit_out, visit_within, visit_grows, visit_keeps, visit_supported, visit_domains}

-- what holds of every row holds of the first, and of the others
mine : {P : Row → Type 0} (r : Row) (rs : List Row) → ((s : Row) → s ∈ (r ∷ rs) → P s) → P r
mine r rs h = h r (Memᴰ.head refl)

theirs : {P : Row → Type 0} (r : Row) (rs : List Row) → ((s : Row) → s ∈ (r ∷ rs) → P s) → (s : Row) → s ∈ rs → P s
theirs r rs h s m = h s (Memᴰ.tail m)

-- no row names a cell twice
abbrev pub AllOnce : List Row → Type 0
AllOnce rs = (r : Row) → r ∈ rs → Once r.cells

pub pass_length : (rs : List Row) (d : List ℕ) → length (pass rs d) ≡ length d
unfolding pass
pass_length [] d = refl
pass_length (r ∷ rs) d = pass_length rs (visit r d) ∙ visit_length r d

-- one row more
pub pass_more : (rs : List Row) (r : Row) (d : List ℕ) → pass (rs ++ (r ∷ [])) d ≡ visit r (pass rs d)
unfolding pass
pass_more [] r d = refl
pass_more (s ∷ rs) r d = pass_more rs r (visit s d)

pub pass_within : (rs : List Row) → AllOnce rs → (d : List ℕ) → NoNewValue (pass rs d) d
unfolding pass
pass_within [] once d = within_self d
pass_within (r ∷ rs) once d = within_trans (pass_within rs (theirs r rs once) (visit r d)) (visit_within r (mine r rs once) d)

pub pass_grows : (rs : List Row) → AllOnce rs → (d e : List ℕ) → NoNewValue d e → NoNewValue (pass rs d) (pass rs e)
unfolding pass
pass_grows [] once d e h = h
pass_grows (r ∷ rs) once d e h = pass_grows rs (theirs r rs once) (visit r d) (visit r e) (visit_grows r (mine r rs once) d e h)

-- a consistent family within stays within
pub pass_keeps : (rs : List Row) → AllOnce rs → (e d : List ℕ) → Consistent rs e → NoNewValue e d → NoNewValue e (pass rs d)
unfolding pass
pass_keeps [] once e d s h = h
pass_keeps (r ∷ rs) once e d s h =
    pass_keeps rs (theirs r rs once) e (visit r d) (theirs r rs s) (visit_keeps r (mine r rs once) e d h (mine r rs s))

-- and what a pass strikes nothing from is consistent
pub pass_consistent : (rs : List Row) → AllOnce rs → (d : List ℕ) → NoNewValue d (pass rs d) → Consistent rs d
unfolding pass
pass_consistent [] once d h r m = absurd (Memᴰ.not-nil m)
pass_consistent (r ∷ rs) once d h s m =
    let others = theirs r rs once in
    let first = within_trans h (pass_within rs others (visit r d)) in
    let rest = within_trans h (pass_grows rs others (visit r d) d (visit_within r (mine r rs once) d)) in
    ⊎_elim (λ (e : s ≡ r). rw e (visit_supported r (mine r rs once) d first)) (λ k. pass_consistent rs others d rest s k) (Memᴰ.cases_cons m)

pub pass_domains : (rs : List Row) → AllOnce rs → (d : List ℕ) → Domains d → Domains (pass rs d)
unfolding pass
pass_domains [] once d h = h
pass_domains (r ∷ rs) once d h = pass_domains rs (theirs r rs once) (visit r d) (visit_domains r (mine r rs once) d h)

-- a cell in no row keeps its domain
pub pass_out : (rs : List Row) (d : List ℕ) (c : ℕ) → Loose rs c → get_or (pass rs d) c 0 ≡ get_or d c 0
unfolding pass
pass_out [] d c h = refl
pass_out (r ∷ rs) d c h = pass_out rs (visit r d) c (theirs r rs h) ∙ visit_out r d c (mine r rs h)
