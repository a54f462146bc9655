-- How long the parts of a file are, and that the same boards have the same bytes. Assumes nothing.
use Rattle.std.specs.Prelude.{◌≡◌, List, ◌⊎◌, length, take}
use Rattle.std.proofs.Math.Path.{refl}
use Rattle.std.proofs.Common.{sym, ap, ◌∙◌, mul-suc, le_refl, add-one, length-take-le}
use Rattle.std.proofs.lemmas.List.{get_or-take}
use Rattle.std.proofs.Math.Logic.{⊎_elim}
use Prim.Native.Nat.{ℕ, zero, suc, ◌+◌, ◌*◌, ◌≤◌, ◌<◌}
use Rattle.std.proofs.Math.Nat.{eq-or-lt_of_le}
use native.Mathlib.Omega.{arith}
use Rattle.std.proofs.Math.ListN.{length-append}
use Rattle.sizes.specs.Sizes.{row_cells, file_size}
use Rattle.board.specs.declared.Row.{Row}
use Rattle.board.specs.declared.Board.{Board}
use Rattle.board.specs.Board.{row_at, blank_row, SameRow, SameBoard}
use Rattle.board.specs.Refusals.{board_refuses}
use Rattle.board.specs.RefusalLaws.{board_sound}
use Rattle.writer.specs.Bytes.{joined, four_bytes, pair_bytes, row_bytes, domain_bytes, line_bytes, file_of}
use Rattle.writer.specs.Steps.{ShortRows}

-- how long what is joined is
module _ (f : ℕ → List ℕ) where
  pub size_start : length (joined f 0) ≡ 0
  unfolding joined
  size_start = refl

  pub size_next : (k : ℕ) → length (joined f (k + 1)) ≡ length (joined f k) + length (f k)
  unfolding joined
  size_next k = rw (add-one, length-append)

  pub size_even : (w n : ℕ) → ((k : ℕ) → length (f k) ≡ w) → length (joined f n) ≡ w * n
  unfolding joined
  size_even w zero h = omega arith
  size_even w (suc n) h = rw (length-append, size_even w n h, h n) (sym (mul-suc w n))

  pub size_rises : (k n : ℕ) → k ≤ n → length (joined f k) ≤ length (joined f n)
  unfolding joined
  size_rises k zero l = let e : k ≡ 0 = omega arith in rw e (le_refl _)
  size_rises k (suc n) l =
      let m : (k ≡ suc n) ⊎ (k < suc n) = eq-or-lt_of_le l in
      ⊎_elim (λ e. rw e (le_refl _)) (λ h. let q = size_rises k n (omega arith) in rw length-append (omega arith)) m

-- the pairs, the domains, a row, the rows, the file
pub pairs_size : (names weights : List ℕ) (len : ℕ) → length (joined (pair_bytes names weights) len) ≡ 2 * len
pairs_size names weights len = size_even (pair_bytes names weights) 2 len (λ k. refl)

pub domains_size : (domains : List ℕ) (cells : ℕ) → length (joined (domain_bytes domains) cells) ≡ 4 * cells
domains_size domains cells = size_even (domain_bytes domains) 4 cells (λ k. refl)

pub row_size : (row : Row) → length (row_bytes row) ≡ 5 + 2 * row.len
unfolding row_bytes
row_size row = rw (length-append, pairs_size)

pub lines_next : (lines : List Row) (i : ℕ) → length (joined (line_bytes lines) (i + 1)) ≡ length (joined (line_bytes lines) i) + 5 + 2 * (row_at lines i).len
lines_next lines i =
    let e = size_next (line_bytes lines) i in
    let r = row_size (row_at lines i) in
    omega arith

pub file_size_lem : (board : Board) → length (file_of board) ≡ 4 * board.cells + length (joined (line_bytes board.lines) board.rows) + 6
unfolding file_of
file_size_lem board = rw (length-append, length-append, domains_size) (omega arith)

-- the rows of a board that is not refused are short, and so is its file
pub rows_short : (board : Board) → board_refuses board ≡ 0 → ShortRows board.lines board.rows
rows_short board e i l = ((board_sound board e).lines i l).head.most

pub lines_short : (lines : List Row) (n : ℕ) → ShortRows lines n → length (joined (line_bytes lines) n) ≤ (5 + 2 * row_cells) * n
unfolding joined
lines_short lines zero h = omega arith
lines_short lines (suc n) h =
    let a = lines_short lines n (λ i l. h i (omega arith)) in
    let b = h n (omega arith) in
    rw (length-append, row_size) (omega arith)

pub file_short : (board : Board) → board_refuses board ≡ 0 → length (file_of board) ≤ file_size
file_short board e =
    let s = (board_sound board e).sizes in
    let l = lines_short board.lines board.rows (rows_short board e) in
    rw file_size_lem (omega arith)

-- what is joined of the same parts is the same
joined_same : (f g : ℕ → List ℕ) (n : ℕ) → ((k : ℕ) → k < n → f k ≡ g k) → joined f n ≡ joined g n
unfolding joined
joined_same f g zero h = refl
joined_same f g (suc n) h = rw (joined_same f g n (λ k l. h k (omega arith)), h n (omega arith))

-- the domains, and the rows, that stand at the front of an array
pub domains_front : (domains : List ℕ) (cells : ℕ) → cells ≤ length domains
    → joined (domain_bytes (take cells domains)) (length (take cells domains)) ≡ joined (domain_bytes domains) cells
domains_front domains cells h =
    ap (joined (domain_bytes (take cells domains))) (length-take-le cells domains h)
    ∙ joined_same (domain_bytes (take cells domains)) (domain_bytes domains) cells (λ k l. ap four_bytes (get_or-take cells domains k 0 l))

pub rows_front : (lines : List Row) (rows : ℕ) → rows ≤ length lines
    → joined (line_bytes (take rows lines)) (length (take rows lines)) ≡ joined (line_bytes lines) rows
rows_front lines rows h =
    ap (joined (line_bytes (take rows lines))) (length-take-le rows lines h)
    ∙ joined_same (line_bytes (take rows lines)) (line_bytes lines) rows (λ i l. ap row_bytes (get_or-take rows lines i blank_row l))

pub short_front : (lines : List Row) (rows : ℕ) → rows ≤ length lines → ShortRows lines rows → ShortRows (take rows lines) (length (take rows lines))
short_front lines rows h short i l =
    let n = length-take-le rows lines h in
    let m : i < rows = omega arith in
    rw (get_or-take rows lines i blank_row m) (short i m)

row_bytes_same : (a b : Row) → SameRow a b → row_bytes a ≡ row_bytes b
unfolding row_bytes
row_bytes_same a b s =
    rw (s.len, s.low, s.high, joined_same (pair_bytes a.names a.weights) (pair_bytes b.names b.weights) b.len (λ k l. rw (s.names k l, s.weights k l)))

pub file_same : (a b : Board) → SameBoard a b → file_of a ≡ file_of b
unfolding file_of
file_same a b s =
    let domains = joined_same (domain_bytes a.domains) (domain_bytes b.domains) b.cells (λ i l. rw (s.domains i l)) in
    let lines = joined_same (line_bytes a.lines) (line_bytes b.lines) b.rows (λ i l. row_bytes_same (row_at a.lines i) (row_at b.lines i) (s.lines i l)) in
    rw (s.cells, s.rows, domains, lines)
