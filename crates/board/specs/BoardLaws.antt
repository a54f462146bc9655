-- Laws of arrays that are filled from the front. Assumes nothing.
use Rattle.std.specs.Prelude.{◌≡◌, List, length, get_or, set, replicate}
use Rattle.std.proofs.Common.{◌∙◌, append_assoc, add-one, length-append}
use Prim.Native.Nat.{ℕ, suc, ◌+◌, ◌-◌, ◌≤◌, ◌<◌}
use native.Mathlib.Omega.{arith}
use Rattle.std.proofs.lemmas.List.{length-replicate}
use Rattle.std.proofs.Math.ListN.{get_or-append}
use Rattle.std.proofs.Math.Seq.{set_at}
use Rattle.listing.specs.Listing.{by_place}
use Rattle.listing.specs.Places.{place_none, place_more, place_length, place_at}
use Rattle.board.specs.Board.{filled}

module _ {A : Type 0} (f : ℕ → A) (z : A) where
  -- a place that is filled
  pub filled_at : (n m k : ℕ) (d : A) → k < n → get_or (filled f z n m) k d ≡ f k
  unfolding filled
  filled_at n m k d l = get_or-append (by_place f n) _ d k (rw place_length l) ∙ place_at f n k d l

  pub length_filled : (n m : ℕ) → n ≤ m → length (filled f z n m) ≡ m
  unfolding filled
  length_filled n m l = rw (length-append, place_length, length-replicate) (omega arith)

  -- a loop that fills an array: at its start, one place more, and its end
  pub filled_start : (m : ℕ) → replicate m z ≡ filled f z 0 m
  unfolding filled
  filled_start m = let e : m - 0 ≡ m = omega arith in rw (e, place_none)

  filled_more : (i m : ℕ) → i < m → set (filled f z i m) i (f i) ≡ filled f z (suc i) m
  unfolding filled
  filled_more i m l =
      let e : m - i ≡ suc (m - suc i) = omega arith in
      rw (e, set_at (by_place f i) z _ (f i) i (place_length f i), place_more, append_assoc)

  pub filled_next : (i m : ℕ) (l : List A) (v : A) → l ≡ filled f z i m → v ≡ f i → i < m → set l i v ≡ filled f z (i + 1) m
  filled_next i m l v e h b = rw (e, h, add-one) (filled_more i m b)

  pub filled_end : (i n m : ℕ) (l : List A) → l ≡ filled f z i m → i ≤ n → n ≤ i → l ≡ filled f z n m
  filled_end i n m l e a b = let h : i ≡ n = omega arith in rw h at e
