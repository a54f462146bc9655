-- The bytes of a board that is not refused are a file that is not refused, and the board that it holds is the same. Assumes nothing.
use Rattle.std.specs.Prelude.{◌≡◌, List, ◌∷◌, ◌++◌, get_or}
use Rattle.std.proofs.Common.{sym, ◌∙◌}
use Rattle.std.proofs.Math.Path.{ap}
use Prim.Native.Nat.{ℕ, zero, suc, ◌+◌, ◌*◌, ◌/◌, ◌%◌, ◌^◌, ◌≤◌, ◌<◌}
use Rattle.std.proofs.Math.Numerals.{add-one}
use native.Mathlib.Omega.{arith}
use Rattle.std.proofs.Math.ListN.{length, length-append}
use borrow.Author.Tests.{le-ltb}
use Rattle.told.specs.Told.{firsts}
use Rattle.told.proofs.ToldLaws.{agree, firsts_each, firsts_zero, neither, both_none}
use Rattle.sizes.specs.Sizes.{row_cells, board_cells, board_rows, file_size}
use Rattle.board.specs.declared.Row.{Row}
use Rattle.board.specs.declared.Board.{Board}
use Rattle.board.specs.Board.{mark, zero_row, blank_row, row_at, SameRow, SameBoard}
use Rattle.board.specs.BoardLaws.{filled_at}
use Rattle.board.specs.Refusals.{sizes_refuse, line_refuses, board_refuses}
use Rattle.board.specs.Sound.{SoundLine, SoundBoard}
use Rattle.board.specs.RefusalLaws.{board_sound, row_same}
use Rattle.reader.specs.File.{byte, two, four, trailer, start_in, cells_in, rows_in, mark_in, domain_in, name_in, weight_in, row_in, row_end, row_place, line_in, board_in}
use Rattle.reader.specs.Reading.{size_refuses, mark_refuses, trailer_refuses, line_in_refuses, rows_refuse, file_refuses}
use Rattle.reader.specs.FileLaws.{row_in_fits}
use Rattle.writer.specs.Bytes.{joined, two_bytes, four_bytes, domain_bytes, head_bytes, pair_bytes, row_bytes, line_bytes, trailer_bytes, file_of}
use Rattle.writer.specs.BytesLaws.{pairs_size, domains_size, lines_next, size_start, size_rises, file_size_lem, file_short}
use Rattle.round.specs.Stands.{Stands, more, front, back, one, itself}

-- numbers that stand in a file are read as they are
module _ {file : List ℕ} {at : ℕ} where
  byte_back : {x : ℕ} {xs : List ℕ} → Stands file at (x ∷ xs) → byte file at ≡ x
  byte_back (more _ e _) = e

  rest_back : {x : ℕ} {xs : List ℕ} → Stands file at (x ∷ xs) → Stands file (at + 1) xs
  rest_back (more _ _ s) = s

two_back : {file : List ℕ} {at : ℕ} (x : ℕ) → x < 65536 → Stands file at (two_bytes x) → two file at ≡ x
two_back x l s =
    let a = byte_back s in
    let b = byte_back (rest_back s) in
    omega arith

four_back : {file : List ℕ} {at : ℕ} (x : ℕ) → x < 2 ^ 32 → Stands file at (four_bytes x) → four file at ≡ x
four_back x l s =
    let a = two_back (x % 65536) (omega arith) (front (two_bytes (x % 65536)) (two_bytes (x / 65536)) s) in
    let b = two_back (x / 65536) (omega arith) (back (two_bytes (x % 65536)) (two_bytes (x / 65536)) s) in
    omega arith

-- and so is a row
module _ {file : List ℕ} {at : ℕ} (cells : ℕ) (row : Row) (few : cells ≤ board_cells) (r : SoundLine cells row) (s : Stands file at (row_bytes row)) where
  head_stands : Stands file at (head_bytes row.len row.low row.high)
  unfolding row_bytes
  head_stands = front (head_bytes row.len row.low row.high) (joined (pair_bytes row.names row.weights) row.len) s

  pair_stands : (k : ℕ) → k < row.len → Stands file (at + 5 + 2 * k) (pair_bytes row.names row.weights k)
  unfolding row_bytes
  pair_stands k l =
      let pairs = pair_bytes row.names row.weights in
      rw pairs_size at (one pairs row.len k l (back (head_bytes row.len row.low row.high) (joined pairs row.len) s))

  len_back : byte file at ≡ row.len
  len_back = let e = byte_back head_stands in omega (arith, r.head.most)

  row_back : SameRow (row_in file at) row
  unfolding row_in
  row_back =
      let limits = back (row.len % 256 ∷ two_bytes row.low) (two_bytes row.high) head_stands in
      let low = rest_back (front (row.len % 256 ∷ two_bytes row.low) (two_bytes row.high) head_stands) in
      let h = r.head in
      record {
        len = len_back;
        low = two_back row.low (omega arith) low;
        high = two_back row.high (omega arith) limits;
        names = λ k l.
            let e = byte_back (pair_stands k l) in
            let f = filled_at (name_in file at) 0 (byte file at) row_cells k 0 (rw len_back l) in
            omega (arith, r.known k l);
        weights = λ k l.
            let next : at + 6 + 2 * k ≡ at + 5 + 2 * k + 1 = omega arith in
            filled_at (weight_in file at) 0 (byte file at) row_cells k 0 (rw len_back l) ∙ ap (byte file) next ∙ byte_back (rest_back (pair_stands k l));
      }

-- and the trailer
record Trailer (file : List ℕ) (at cells rows : ℕ) : Type 0 where
  start : two file at ≡ 4 * cells
  cells_are : byte file (at + 2) ≡ cells
  rows_are : byte file (at + 3) ≡ rows
  marked : two file (at + 4) ≡ mark

trailer_back : {file : List ℕ} (at cells rows : ℕ) → cells ≤ board_cells → rows ≤ board_rows → Stands file at (trailer_bytes cells rows) → Trailer file at cells rows
trailer_back {file} at cells rows c r s =
    let sizes = back (two_bytes (4 * cells)) (cells % 256 ∷ rows % 256 ∷ two_bytes mark) s in
    let third : at + 2 + 1 ≡ at + 3 = omega arith in
    let fourth : at + 2 + 1 + 1 ≡ at + 4 = omega arith in
    let x = byte_back sizes in
    let y = byte_back (rest_back sizes) in
    let z = ap (byte file) third in
    record {
      start = two_back (4 * cells) (omega arith) (front (two_bytes (4 * cells)) (cells % 256 ∷ rows % 256 ∷ two_bytes mark) s);
      cells_are = omega arith;
      rows_are = omega arith;
      marked = two_back mark (omega arith) (rw fourth at (rest_back (rest_back sizes)));
    }

-- the file of a board that is not refused, whose domains are 32-bit numbers
module _ (board : Board) (ok : board_refuses board ≡ 0) (domains32 : (i : ℕ) → get_or board.domains i 0 < 2 ^ 32) where
  file : List ℕ
  file = file_of board

  domains : List ℕ
  domains = joined (domain_bytes board.domains) board.cells

  lines : List ℕ
  lines = joined (line_bytes board.lines) board.rows

  tail : List ℕ
  tail = trailer_bytes board.cells board.rows

  sound : SoundBoard board
  sound = board_sound board ok

  all_stand : Stands file 0 (domains ++ lines ++ tail)
  unfolding file domains lines tail file_of
  all_stand = itself (file_of board)

  size : length file ≡ 4 * board.cells + length lines + 6
  unfolding file lines
  size = file_size_lem board

  domain_stands : (i : ℕ) → i < board.cells → Stands file (4 * i) (domain_bytes board.domains i)
  unfolding domains
  domain_stands i l =
      let e : 0 + 4 * i ≡ 4 * i = omega arith in
      rw (domains_size, e) at (one (domain_bytes board.domains) board.cells i l (front domains lines (front (domains ++ lines) tail all_stand)))

  line_stands : (i : ℕ) → i < board.rows → Stands file (4 * board.cells + length (joined (line_bytes board.lines) i)) (line_bytes board.lines i)
  unfolding domains lines
  line_stands i l =
      let e : 0 + 4 * board.cells ≡ 4 * board.cells = omega arith in
      rw (domains_size, e) at (one (line_bytes board.lines) board.rows i l (back domains lines (front (domains ++ lines) tail all_stand)))

  trailer_at : trailer file ≡ 4 * board.cells + length lines
  trailer_at = let e = size in omega arith

  trailer_is : Trailer file (trailer file) board.cells board.rows
  unfolding domains tail
  trailer_is =
      let d = domains_size board.domains board.cells in
      let a = length-append domains lines in
      let e : 0 + length (domains ++ lines) ≡ trailer file = let t = trailer_at in omega arith in
      trailer_back (trailer file) board.cells board.rows sound.sizes.cells_most sound.sizes.rows_most (rw e at (back (domains ++ lines) tail all_stand))

  line_same : (i at : ℕ) → i < board.rows → at ≡ 4 * board.cells + length (joined (line_bytes board.lines) i) → SameRow (row_in file at) (row_at board.lines i)
  line_same i at l e = row_back board.cells (row_at board.lines i) sound.sizes.cells_most (sound.lines i l) (rw e (line_stands i l))

  line_len : (i at : ℕ) → i < board.rows → at ≡ 4 * board.cells + length (joined (line_bytes board.lines) i) → byte file at ≡ (row_at board.lines i).len
  unfolding row_in
  line_len i at l e = (line_same i at l e).len

  place_is : (i : ℕ) → i ≤ board.rows → row_place file i ≡ 4 * board.cells + length (joined (line_bytes board.lines) i)
  unfolding row_place
  place_is zero l =
      let c = trailer_is.cells_are in
      let z = size_start (line_bytes board.lines) in
      omega arith
  place_is (suc i) l =
      let p = place_is i (omega arith) in
      let b = line_len i (row_place file i) (omega arith) p in
      let n = rw add-one at (lines_next board.lines i) in
      omega arith

  line_fits : (i : ℕ) → i < board.rows → row_end file (row_place file i) ≤ trailer file
  unfolding row_place lines
  line_fits i l =
      let p = place_is (suc i) (omega arith) in
      let u = size_rises (line_bytes board.lines) (suc i) board.rows (omega arith) in
      let t = trailer_at in
      omega arith

  refusals : (sizes_refuse board.cells board.rows ≡ 0) × (firsts (line_refuses board.cells board.lines) board.rows ≡ 0)
  unfolding board_refuses
  refusals = neither (sizes_refuse board.cells board.rows) (firsts (line_refuses board.cells board.lines) board.rows) ok

  line_none : (i : ℕ) → i < board.rows → line_in_refuses file i ≡ 0
  line_none i l =
      row_in_fits file (row_place file i) (line_fits i l)
      ∙ rw trailer_is.cells_are (row_same board.cells (row_in file (row_place file i)) (row_at board.lines i) (line_same i (row_place file i) l (place_is i (omega arith))))
      ∙ firsts_each (line_refuses board.cells board.lines) board.rows refusals.1 i l

  size_none : size_refuses (length file) ≡ 0
  unfolding file
  size_none =
      let e = size in
      let long : 6 ≤ length file = omega arith in
      rw (le-ltb (length file) 6 long, le-ltb file_size (length file) (file_short board ok))

  trailer_none : trailer_refuses file ≡ 0
  unfolding trailer_refuses
  trailer_none =
      let t = trailer_is in
      let start : start_in file ≡ 4 * cells_in file = t.start ∙ ap (λ (n : ℕ). 4 * n) (sym t.cells_are) in
      let inside : start_in file ≤ trailer file = let e = trailer_at in omega (arith, t.start) in
      both_none (mark_refuses (mark_in file)) _ (rw (agree (mark_in file) mark t.marked))
      (both_none (sizes_refuse (cells_in file) (rows_in file)) _ (rw (t.cells_are, t.rows_are) refusals.0)
      (rw (agree (start_in file) (4 * cells_in file) start, le-ltb (trailer file) (start_in file) inside)))

  rows_none : rows_refuse file ≡ 0
  unfolding rows_refuse lines
  rows_none =
      let e : row_place file board.rows ≡ trailer file = let p = place_is board.rows (omega arith) in let t = trailer_at in omega arith in
      rw trailer_is.rows_are
      (both_none (firsts (line_in_refuses file) board.rows) _ (firsts_zero (line_in_refuses file) board.rows line_none)
      (rw (agree (row_place file board.rows) (trailer file) e)))

  pub reread : file_refuses (file_of board) ≡ 0
  unfolding file_refuses file
  reread = both_none (size_refuses (length file)) _ size_none (both_none (trailer_refuses file) (rows_refuse file) trailer_none rows_none)

  pub same : SameBoard (board_in (file_of board)) board
  unfolding board_in file
  same =
      let t = trailer_is in
      record {
        cells = t.cells_are;
        domains = λ i l.
            filled_at (domain_in file) 0 (cells_in file) board_cells i 0 (rw t.cells_are l)
            ∙ four_back (get_or board.domains i 0) (domains32 i) (domain_stands i l);
        rows = t.rows_are;
        lines = λ i l.
            rw (filled_at (line_in file) zero_row (rows_in file) board_rows i blank_row (rw t.rows_are l)) (line_same i (row_place file i) l (place_is i (omega arith)));
      }
