-- Families of domains: one within another, the same both ways, and how many values they list. Assumes nothing.
use Rattle.std.specs.Prelude.{◌≡◌, refl, List, [], ◌∷◌, ℕ, zero, suc, ◌*◌, ◌^◌, ◌≤◌, ◌<◌, length, get_or, set}
use Rattle.std.proofs.Common.{sym, ◌∙◌, arith, get_or-set_same, get_or-set_other, ext_get_or}
use Rattle.std.proofs.Math.Decide.{ℕ_discrete}
use Rattle.sizes.specs.Sizes.{values}
use Rattle.counting.specs.Counting.{lists, size, Filling, NoNewValue}
use Rattle.counting.proofs.Domains.{◌⇒◌, both, same_domain, listed_le, ones_most, ones_tight}
use Rattle.counting.proofs.Over.{filling_length, filling_at, filling_by}
use Rattle.settling.specs.Settling.{Domains}

pub within_self : (d : List ℕ) → NoNewValue d d
within_self d = record { cells = refl; values_there = λ c v l b. b }

pub within_trans : {d e f : List ℕ} → NoNewValue d e → NoNewValue e f → NoNewValue d f
within_trans h k = record { cells = h.cells ∙ k.cells; values_there = λ c v l b. k.values_there c v l (h.values_there c v l b) }

-- two that lie in each other are the same numbers
pub within_both : (d e : List ℕ) → Domains d → Domains e → NoNewValue d e → NoNewValue e d → d ≡ e
within_both d e hd he h k =
    ext_get_or 0 d e h.cells (λ c l. same_domain _ _ (hd c) (he c) (λ v m. both _ _ (h.values_there c v m) (k.values_there c v m)))

-- a domain put in another's place
pub set_domains : (d : List ℕ) (c x : ℕ) → c < length d → x < 2 ^ values → Domains d → Domains (set d c x)
set_domains d c x l s h p = go (ℕ_discrete p c)
  where
    go : Dec (p ≡ c) → get_or (set d c x) p 0 < 2 ^ values
    go (yes e) = rw (e, get_or-set_same d c x 0 l) s
    go (no n) = rw (get_or-set_other d c p x 0 n) (h p)

-- a filling made from the one within is one from the other
pub filling_within : (d e : List ℕ) → NoNewValue d e → (f : List ℕ) → Filling d f → Filling e f
filling_within d e h f t =
    filling_by e f (filling_length d f t ∙ h.cells) (λ p l.
    let k = filling_at d f t p (omega (arith, h.cells)) in (k.0, h.values_there p (get_or f p 0) k.0 k.1))

within_tail : (x y : ℕ) (d e : List ℕ) → NoNewValue (x ∷ d) (y ∷ e) → NoNewValue d e
within_tail x y d e h = record { cells = omega (arith, h.cells); values_there = λ c. h.values_there (suc c) }

-- ---- how many values are listed

-- no more in the one within
pub size_grows : (d e : List ℕ) → NoNewValue d e → size d ≤ size e
unfolding size
size_grows [] e h = omega arith
size_grows (x ∷ d) [] h = omega (arith, h.cells)
size_grows (x ∷ d) (y ∷ e) h = omega (arith, ones_most x y (h.values_there 0), size_grows d e (within_tail x y d e h))

-- and where no fewer, they list the same
pub size_tight : (d e : List ℕ) → NoNewValue d e → size e ≤ size d → NoNewValue e d
unfolding size
size_tight [] [] h s = within_self []
size_tight [] (y ∷ e) h s = absurd (omega (arith, h.cells))
size_tight (x ∷ d) [] h s = absurd (omega (arith, h.cells))
size_tight (x ∷ d) (y ∷ e) h s =
    let a = ones_most x y (h.values_there 0) in
    let b = size_grows d e (within_tail x y d e h) in
    let t = size_tight d e (within_tail x y d e h) (omega arith) in
    record { cells = sym h.cells; values_there = go t (ones_tight x y (h.values_there 0) (omega arith)) }
  where
    go : NoNewValue e d → ((v : ℕ) → v < values → lists y v ⇒ lists x v)
        → (c v : ℕ) → v < values → lists (get_or (y ∷ e) c 0) v ⇒ lists (get_or (x ∷ d) c 0) v
    go t q zero = q
    go t q (suc c) = t.values_there c

-- at most 32 for each cell
pub size_most : (d : List ℕ) → size d ≤ values * length d
unfolding size
size_most [] = omega arith
size_most (x ∷ d) = omega (arith, size_most d, listed_le x)
