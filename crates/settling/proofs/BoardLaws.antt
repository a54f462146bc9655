-- A board's record that is not refused is an accepted board, and settles to a consistent one; its spare places don't matter; a pass over its rows goes
-- by places. Assumes nothing.
use Rattle.std.specs.Prelude.{◌≡◌, List, ℕ, ◌+◌, ◌≤◌, ◌<◌, length, get_or, take}
use Rattle.std.proofs.Common.{sym, ◌∙◌, add-one, arith}
use Rattle.std.proofs.Math.Decide.{dec_lt}
use Rattle.listing.specs.Places.{place_none, place_more, place_length, place_at, place_same, place_member, place_take}
use Rattle.board.specs.declared.Row.{Row as Line}
use Rattle.board.specs.declared.Board.{Board}
use Rattle.board.specs.Board.{row_at, SameRow, SameBoard}
use Rattle.board.specs.Sound.{SoundLine, SoundBoard}
use Rattle.settling.specs.Settling.{Row, ◌∈◌, Fits, Domains, Accepted, visit, pass, settle, Consistent}
use Rattle.settling.specs.Passes.{pass_more}
use Rattle.settling.proofs.Settles.{settle_largest}
use Rattle.settling.specs.Boards.{front, row_with, row_of, rows_to, rows_of}

front_length : (n : ℕ) (xs : List ℕ) → length (front n xs) ≡ n
front_length n xs = place_length _ n

front_at : (n : ℕ) (xs : List ℕ) (p : ℕ) → p < length (front n xs) → get_or (front n xs) p 0 ≡ get_or xs p 0
front_at n xs p l = place_at _ n p 0 (omega (arith, front_length n xs))

-- a row's record is the row of its arrays' fronts
pub row_fronts : (line : Line) → line.len ≤ length line.names → line.len ≤ length line.weights
    → row_with (take line.len line.names) (take line.len line.weights) line.low line.high ≡ row_of line
row_fronts line n w = rw (place_take 0 line.names line.len n, place_take 0 line.weights line.len w)

-- each row fits
pub sound_fits : (cells : ℕ) (line : Line) → SoundLine cells line → Fits cells (row_of line)
sound_fits cells line s =
    record {
      lengths = front_length line.len line.weights ∙ sym n;
      inside = λ p l. rw (front_at line.len line.names p l) (s.known p (omega (arith, n)));
      once = λ p q l m e. once p q (omega (arith, n)) (omega (arith, n)) (sym (front_at line.len line.names p l) ∙ e ∙ front_at line.len line.names q m);
    }
  where
    n : length (front line.len line.names) ≡ line.len
    n = front_length line.len line.names

    once : (p q : ℕ) → p < line.len → q < line.len → get_or line.names p 0 ≡ get_or line.names q 0 → p ≡ q
    once p q l m e = go (dec_lt p q) (dec_lt q p)
      where
        go : Dec (p < q) → Dec (q < p) → p ≡ q
        go (yes a) t = absurd (s.once p q a m e)
        go (no a) (yes b) = absurd (s.once q p b l (sym e))
        go (no a) (no b) = omega arith

module _ (board : Board) (sound : SoundBoard board) where
  rows_fit : (r : Row) → r ∈ rows_of board → Fits board.cells r
  rows_fit r m = let i = place_member _ board.rows r m in rw i.2 (sound_fits board.cells (row_at board.lines i.0) (sound.lines i.0 i.1))

  pub sound_accepted : (d : List ℕ) → length d ≡ board.cells → Domains d → Accepted (rows_of board) d
  sound_accepted d n h = record { rows = λ r m. rw n (rows_fit r m); domains = h }

  -- each row has cells
  pub rows_have_cells : (r : Row) → r ∈ rows_of board → 1 ≤ length r.cells
  rows_have_cells r m =
      let i = place_member _ board.rows r m in
      rw (i.2, front_length (row_at board.lines i.0).len (row_at board.lines i.0).names) (sound.lines i.0 i.1).head.some

  -- what settling leaves is consistent
  pub settled_consistent : (d : List ℕ) → Consistent (rows_of board) (settle (rows_of board) d).left
  settled_consistent d = (settle_largest (rows_of board) (λ r m. (rows_fit r m).once) d).consistent

-- the same boards have the same rows: spare places don't matter
same_row : (a b : Line) → SameRow a b → row_of a ≡ row_of b
same_row a b s =
    rw (s.len, s.low, s.high, place_same _ _ b.len s.names, place_same _ _ b.len s.weights)

pub same_rows : (a b : Board) → SameBoard a b → rows_of a ≡ rows_of b
same_rows a b s =
    rw s.rows
    (place_same _ _ b.rows (λ i l. same_row (row_at a.lines i) (row_at b.lines i) (s.lines i l)))

-- a pass over none of the rows, and over one more
pub pass_none : (lines : List Line) (d : List ℕ) → pass (rows_to lines 0) d ≡ d
unfolding pass
pass_none lines d = rw (place_none _)

pub pass_next : (lines : List Line) (i : ℕ) (d : List ℕ) → pass (rows_to lines (i + 1)) d ≡ visit (row_of (row_at lines i)) (pass (rows_to lines i) d)
pass_next lines i d = rw (add-one i, place_more _ i) (pass_more (rows_to lines i) (row_of (row_at lines i)) d)
