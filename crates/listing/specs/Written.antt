-- A room written place by place. Definitions only.
use Rattle.std.specs.Prelude.{◌≡◌, List, ℕ, ◌≤◌, ◌<◌, get_or}

-- new is old with g k written at each place k from lo to hi - 1; the rest is unchanged
pub record Written (g : ℕ → ℕ) (old new : List ℕ) (lo hi : ℕ) : Type 0 where
  pub inside : (k : ℕ) → lo ≤ k → k < hi → get_or new k 0 ≡ g k
  pub early : (k : ℕ) → k < lo → get_or new k 0 ≡ get_or old k 0
  pub late : (k : ℕ) → hi ≤ k → get_or new k 0 ≡ get_or old k 0
