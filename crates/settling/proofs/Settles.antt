-- Passes end, and what they leave is the largest family. Assumes nothing.
use Rattle.std.specs.Prelude.{◌≡◌, Bool, false, length, get_or}
use Rattle.std.proofs.Math.Path.{refl, ap}
use Rattle.std.proofs.Common.{◌∙◌, le_refl, arith}
use Rattle.std.proofs.Math.Bool.{true}
use mathlib.Core.List.{List}
use Prim.Native.Nat.{ℕ, zero, suc, ◌+◌, ◌-◌, ◌≤◌, ◌<◌}
use borrow.Author.Tests.{ltb-true, ltb-false, lt-ltb, le-ltb}
use Rattle.counting.specs.Counting.{size, NoNewValue}
use Rattle.settling.specs.Settling.{Row, Loose, Domains, pass, after, strikes, passes_at_most, passes_made, UntilIdle, Settled, settle, Consistent, Largest}
use Rattle.settling.specs.Families.{within_trans, size_grows, size_tight}
use Rattle.settling.specs.Passes.{AllOnce, pass_length, pass_within, pass_grows, pass_keeps, pass_consistent, pass_domains, pass_out}

-- settling is known by its three parts
pub settled_by : (s : Settled) (left : List ℕ) (passes struck : ℕ) → s.left ≡ left → s.passes ≡ passes → s.struck ≡ struck
    → s ≡ record { left = left; passes = passes; struck = struck }
settled_by s left passes struck e f g = rw (← e, ← f, ← g)

-- ---- passes until one strikes nothing

module _ (rs : List Row) where
  -- the last pass, and one before it
  made_last : (n : ℕ) (d : List ℕ) → size d ≤ size (pass rs d) → passes_at_most (suc n) rs d ≡ 1
  unfolding passes_at_most
  made_last n d h = rw (le-ltb _ _ h)

  made_more : (n : ℕ) (d : List ℕ) → size (pass rs d) < size d → passes_at_most (suc n) rs d ≡ suc (passes_at_most n rs (pass rs d))
  unfolding passes_at_most
  made_more n d h = rw (lt-ltb _ _ h)

  -- one more than the values listed are enough
  made_rule : (P : ℕ → List ℕ → Type 0)
      → ((d : List ℕ) → size d ≤ size (pass rs d) → P 1 d)
      → ((n : ℕ) (d : List ℕ) → size (pass rs d) < size d → P n (pass rs d) → P (suc n) d)
      → (n : ℕ) (d : List ℕ) → size d < n → P (passes_at_most n rs d) d
  made_rule P last more zero d l = absurd (omega arith)
  made_rule P last more (suc n) d l = go (strikes rs d) refl (made_rule P last more n (pass rs d))
    where
      go : (t : Bool) → strikes rs d ≡ t → (size (pass rs d) < n → P (passes_at_most n rs (pass rs d)) (pass rs d)) → P (passes_at_most (suc n) rs d) d
      go true e ih = let k = ltb-true _ _ e in rw (made_more n d k) (more _ d k (ih (omega arith)))
      go false e ih = let k = ltb-false _ _ e in rw (made_last n d k) (last d k)

  -- and more are not used
  made_enough : (n : ℕ) (d : List ℕ) → size d < n → (m : ℕ) → size d < m → passes_at_most m rs d ≡ passes_at_most n rs d
  made_enough = made_rule (λ k d. (m : ℕ) → size d < m → passes_at_most m rs d ≡ k) last more
    where
      last : (d : List ℕ) → size d ≤ size (pass rs d) → (m : ℕ) → size d < m → passes_at_most m rs d ≡ 1
      last d h zero l = absurd (omega arith)
      last d h (suc m) l = made_last m d h

      more : (k : ℕ) (d : List ℕ) → size (pass rs d) < size d → ((m : ℕ) → size (pass rs d) < m → passes_at_most m rs (pass rs d) ≡ k)
          → (m : ℕ) → size d < m → passes_at_most m rs d ≡ suc k
      more k d h ih zero l = absurd (omega arith)
      more k d h ih (suc m) l = rw (made_more m d h, ih m (omega arith))

  -- settling is its last pass, or a pass that strikes and then settling what that leaves
  pub settle_last : (d : List ℕ) → size d ≤ size (pass rs d) → ((settle rs d).left ≡ pass rs d) × ((settle rs d).passes ≡ 1)
  unfolding settle passes_made after
  settle_last d h = let one = made_last (size d) d h in (ap (λ (n : ℕ). after rs n d) one, one)

  pub settle_more : (d : List ℕ) → size (pass rs d) < size d
      → ((settle rs d).left ≡ (settle rs (pass rs d)).left) × ((settle rs d).passes ≡ suc (settle rs (pass rs d)).passes)
  unfolding settle passes_made after
  settle_more d h =
      let one_more = made_more (size d) d h ∙ ap suc (made_enough (suc (size (pass rs d))) (pass rs d) (le_refl _) (size d) h) in
      (ap (λ (n : ℕ). after rs n d) one_more, one_more)

  pub settle_struck : (d : List ℕ) → (settle rs d).struck ≡ size d - size (settle rs d).left
  unfolding settle
  settle_struck d = refl

  -- so what holds of a last pass, and before a pass that strikes if it holds after, holds of settling
  pub settle_rule : (P : ℕ → List ℕ → List ℕ → Type 0)
      → ((d : List ℕ) → size d ≤ size (pass rs d) → P 1 d (pass rs d))
      → ((n : ℕ) (d e : List ℕ) → size (pass rs d) < size d → P n (pass rs d) e → P (suc n) d e)
      → (d : List ℕ) → P (settle rs d).passes d (settle rs d).left
  unfolding settle passes_made after
  settle_rule P last more d = made_rule (λ n d. P n d (after rs n d)) last (λ n d. more n d _) (suc (size d)) d (le_refl _)

  pub settle_length : (d : List ℕ) → length (settle rs d).left ≡ length d
  settle_length = settle_rule (λ n d e. length e ≡ length d) (λ d h. pass_length rs d) (λ n d e h k. k ∙ pass_length rs d)

  -- the passes are those until one strikes nothing
  pub settle_until : (d : List ℕ) → UntilIdle rs d (settle rs d).passes
  unfolding after
  settle_until =
      settle_rule (λ n d e. UntilIdle rs d n)
      (λ d h. record { others = 0; counted = refl; striking = λ k l. absurd (omega arith); idle = le-ltb _ _ h })
      (λ n d e h u. record { others = suc u.others; counted = ap suc u.counted; striking = before d h u.others u.striking; idle = u.idle })
    where
      before : (d : List ℕ) → size (pass rs d) < size d → (n : ℕ) → ((k : ℕ) → k < n → strikes rs (after rs k (pass rs d)) ≡ true)
          → (k : ℕ) → k < suc n → strikes rs (after rs k d) ≡ true
      before d h n u zero l = lt-ltb _ _ h
      before d h n u (suc k) l = u k (omega arith)

  -- a cell in no row keeps its domain
  pub settle_out : (c : ℕ) → Loose rs c → (d : List ℕ) → get_or (settle rs d).left c 0 ≡ get_or d c 0
  settle_out c h = settle_rule (λ n d e. get_or e c 0 ≡ get_or d c 0) (λ d k. pass_out rs d c h) (λ n d e k q. q ∙ pass_out rs d c h)

-- ---- what is left

module _ (rs : List Row) (once : AllOnce rs) where
  settle_within : (d : List ℕ) → NoNewValue (settle rs d).left d
  settle_within =
      settle_rule rs (λ n d e. NoNewValue e d) (λ d h. pass_within rs once d) (λ n d e h k. within_trans k (pass_within rs once d))

  settle_consistent : (d : List ℕ) → Consistent rs (settle rs d).left
  settle_consistent =
      settle_rule rs (λ n d e. Consistent rs e)
      (λ d h. pass_consistent rs once (pass rs d) (pass_grows rs once d (pass rs d) (size_tight (pass rs d) d (pass_within rs once d) h)))
      (λ n d e h k. k)

  settle_keeps : (f : List ℕ) → Consistent rs f → (d : List ℕ) → NoNewValue f d → NoNewValue f (settle rs d).left
  settle_keeps f s =
      settle_rule rs (λ n d e. NoNewValue f d → NoNewValue f e) (λ d h. pass_keeps rs once f d s) (λ n d e h ih k. ih (pass_keeps rs once f d s k))

  -- the largest family
  pub settle_largest : (d : List ℕ) → Largest rs d (settle rs d).left
  settle_largest d =
      record { within = settle_within d; consistent = settle_consistent d; largest = λ f h s. settle_keeps f s d h }

  pub settle_domains : (d : List ℕ) → Domains d → Domains (settle rs d).left
  settle_domains =
      settle_rule rs (λ n d e. Domains d → Domains e) (λ d h. pass_domains rs once d) (λ n d e h ih k. ih (pass_domains rs once d k))

  -- a pass but the last strikes a value
  pub settle_falls : (d : List ℕ) → (settle rs d).passes + size (settle rs d).left ≤ 1 + size d
  settle_falls =
      settle_rule rs (λ n d e. n + size e ≤ 1 + size d) (λ d h. omega (arith, size_grows (pass rs d) d (pass_within rs once d))) (λ n d e h k. omega arith)
