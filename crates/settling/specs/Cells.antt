-- What stands at some cells of a board, and numbers put at some cells. Assumes nothing.
use Rattle.std.specs.Prelude.{◌≡◌, refl, ◌⊎◌, List, [], ◌∷◌, ℕ, zero, suc, ◌+◌, ◌≤◌, ◌<◌, length, get_or, set, drop}
use Rattle.std.proofs.Common.{sym, ap, ap₂, ◌∙◌, inl, inr, le_of_suc-le-suc, add-one, arith, length-set, drop_of_length-le, drop-cons, get_or-set_same, get_or-set_other, ext_get_or}
use Rattle.std.proofs.Math.Decide.{ℕ_discrete}
use Rattle.std.proofs.lemmas.List.{length-map}
use Rattle.sizes.specs.Sizes.{values}
use Rattle.counting.specs.Counting.{lists, listed, size, NoNewValue}
use Rattle.counting.proofs.Domains.{◌⇒◌}
use Rattle.settling.specs.Settling.{Names, Inside, Once, gather, scatter}

-- ---- what stands at some cells

pub gather_length : (d cs : List ℕ) → length (gather d cs) ≡ length cs
unfolding gather
gather_length d cs = length-map cs (λ c. get_or d c 0)

pub gather_at : (d cs : List ℕ) (p : ℕ) → p < length cs → get_or (gather d cs) p 0 ≡ get_or d (get_or cs p 0) 0
unfolding gather
gather_at d [] p l = absurd (omega arith)
gather_at d (c ∷ cs) zero l = refl
gather_at d (c ∷ cs) (suc p) l = gather_at d cs p (le_of_suc-le-suc l)

-- the only list with these members
pub gather_only : (d cs xs : List ℕ) → length xs ≡ length cs → ((p : ℕ) → p < length cs → get_or xs p 0 ≡ get_or d (get_or cs p 0) 0) → xs ≡ gather d cs
gather_only d cs xs n h = ext_get_or 0 xs (gather d cs) (n ∙ sym (gather_length d cs)) (λ p l. h p (omega arith) ∙ sym (gather_at d cs p (omega arith)))

pub gather_within : (d e cs : List ℕ) → NoNewValue d e → NoNewValue (gather d cs) (gather e cs)
unfolding gather
gather_within d e cs h = record { cells = gather_length d cs ∙ sym (gather_length e cs); values_there = go cs }
  where
    go : (cs : List ℕ) (p v : ℕ) → v < values → lists (get_or (gather d cs) p 0) v ⇒ lists (get_or (gather e cs) p 0) v
    go [] p v l b = b
    go (c ∷ cs) zero v l b = h.values_there c v l b
    go (c ∷ cs) (suc p) v l b = go cs p v l b

-- ---- numbers put at some cells

-- c is named, or not
pub named : (cs : List ℕ) (c : ℕ) → Names cs c ⊎ (Names cs c → ⊥)
named [] c = inr (λ t. omega (arith, t.1))
named (k ∷ cs) c = go (ℕ_discrete k c) (named cs c)
  where
    later : Names cs c → Names (k ∷ cs) c
    later t = (suc t.0, omega (arith, t.1), t.2)

    neither : (k ≡ c → ⊥) → (Names cs c → ⊥) → (p : ℕ) → p < length (k ∷ cs) → get_or (k ∷ cs) p 0 ≡ c → ⊥
    neither n m zero l e = n e
    neither n m (suc p) l e = m (p, le_of_suc-le-suc l, e)

    go : Dec (k ≡ c) → Names cs c ⊎ (Names cs c → ⊥) → Names (k ∷ cs) c ⊎ (Names (k ∷ cs) c → ⊥)
    go (yes e) t = inl (0, omega arith, e)
    go (no n) (inl t) = inl (later t)
    go (no n) (inr m) = inr (λ t. neither n m t.0 t.1 t.2)

pub scatter_length : (cs xs d : List ℕ) → length (scatter cs xs d) ≡ length d
unfolding scatter
scatter_length [] xs d = refl
scatter_length (c ∷ cs) [] d = refl
scatter_length (c ∷ cs) (x ∷ xs) d = scatter_length cs xs (set d c x) ∙ length-set d c x

-- one of them is put, and then those after it; and where none is left
pub scatter_next : (cs xs d : List ℕ) (p : ℕ) → p < length cs → p < length xs
    → scatter (drop p cs) (drop p xs) d ≡ scatter (drop (p + 1) cs) (drop (p + 1) xs) (set d (get_or cs p 0) (get_or xs p 0))
unfolding scatter
scatter_next cs xs d p l m = rw (add-one p, drop-cons cs p 0 l, drop-cons xs p 0 m)

pub scatter_end : (cs xs d : List ℕ) (p : ℕ) → length cs ≤ p → scatter (drop p cs) (drop p xs) d ≡ d
unfolding scatter
scatter_end cs xs d p l = rw (drop_of_length-le cs l)

-- a cell that is not named keeps its number
pub scatter_out : (cs xs d : List ℕ) (c : ℕ) → (Names cs c → ⊥) → get_or (scatter cs xs d) c 0 ≡ get_or d c 0
unfolding scatter
scatter_out [] xs d c h = refl
scatter_out (k ∷ cs) [] d c h = refl
scatter_out (k ∷ cs) (x ∷ xs) d c h =
    scatter_out cs xs (set d k x) c (λ t. h (suc t.0, omega (arith, t.1), t.2))
    ∙ get_or-set_other d k c x 0 (λ e. h (0, omega arith, sym e))

once_tail : (k : ℕ) (cs : List ℕ) → Once (k ∷ cs) → Once cs
once_tail k cs u a b p q e = let z = u (suc a) (suc b) (omega arith) (omega arith) e in omega arith

once_head : (k : ℕ) (cs : List ℕ) → Once (k ∷ cs) → Names cs k → ⊥
once_head k cs u t = let z = u (suc t.0) 0 (omega (arith, t.1)) (omega arith) t.2 in omega arith

-- and one that is named once has the number put there
pub scatter_at : (cs xs d : List ℕ) → Once cs → length xs ≡ length cs → (p : ℕ) → p < length cs → get_or cs p 0 < length d
    → get_or (scatter cs xs d) (get_or cs p 0) 0 ≡ get_or xs p 0
unfolding scatter
scatter_at [] xs d u n p l m = absurd (omega arith)
scatter_at (k ∷ cs) [] d u n p l m = absurd (omega arith)
scatter_at (k ∷ cs) (x ∷ xs) d u n zero l m = scatter_out cs xs (set d k x) k (once_head k cs u) ∙ get_or-set_same d k x 0 m
scatter_at (k ∷ cs) (x ∷ xs) d u n (suc p) l m =
    scatter_at cs xs (set d k x) (once_tail k cs u) (omega arith) p (omega arith) (omega (arith, length-set d k x))

pub scatter_gather : (cs xs d : List ℕ) → Once cs → length xs ≡ length cs → Inside (length d) cs → gather (scatter cs xs d) cs ≡ xs
scatter_gather cs xs d u n m =
    let l = gather_length (scatter cs xs d) cs in
    ext_get_or 0 _ _ (l ∙ sym n) (λ p k. gather_at (scatter cs xs d) cs p (omega arith) ∙ scatter_at cs xs d u n p (omega arith) (m p (omega arith)))

-- ---- how many values are listed then

abbrev ones : ℕ → ℕ
ones x = length (listed x)

size_set : (d : List ℕ) (c x : ℕ) → c < length d → size (set d c x) + ones (get_or d c 0) ≡ size d + ones x
unfolding size
size_set [] c x l = absurd (omega arith)
size_set (y ∷ d) zero x l = omega arith
size_set (y ∷ d) (suc c) x l = omega (arith, size_set d c x (le_of_suc-le-suc l))

gather_set : (d cs : List ℕ) (c x : ℕ) → (Names cs c → ⊥) → gather (set d c x) cs ≡ gather d cs
unfolding gather
gather_set d [] c x h = refl
gather_set d (k ∷ cs) c x h =
    ap₂ (λ (y : ℕ) (ys : List ℕ). y ∷ ys) (get_or-set_other d c k x 0 (λ e. h (0, omega arith, e))) (gather_set d cs c x (λ t. h (suc t.0, omega (arith, t.1), t.2)))

pub size_scatter : (cs xs d : List ℕ) → Once cs → Inside (length d) cs → length xs ≡ length cs
    → size (scatter cs xs d) + size (gather d cs) ≡ size d + size xs
unfolding scatter size gather
size_scatter [] [] d u m n = refl
size_scatter [] (x ∷ xs) d u m n = omega arith
size_scatter (c ∷ cs) [] d u m n = omega arith
size_scatter (c ∷ cs) (x ∷ xs) d u m n =
    let rest = size_scatter cs xs (set d c x) (once_tail c cs u) (λ p l. rw (length-set d c x) (m (suc p) (omega arith))) (omega arith) in
    omega (arith, ap size (gather_set d cs c x (once_head c cs u)), size_set d c x (m 0 (omega arith)))
