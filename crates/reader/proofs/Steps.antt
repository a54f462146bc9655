-- What the reader's loops know at each step, and the records that they make. Assumes nothing.
use mathlib.Core.Path.{◌≡◌, ap, ◌∙◌}
use mathlib.Core.List.{List}
use lib.ListN.{length, take}
use Prim.Native.Nat.{ℕ, ◌+◌, ◌*◌, ◌≤◌, ◌<◌}
use native.Mathlib.Numerals.{add-one}
use native.Mathlib.Omega.{arith}
use Rattle.told.specs.declared.Refusal.{Refusal}
use Rattle.told.specs.Told.{firsts, number_of}
use Rattle.told.proofs.ToldLaws.{firsts_err, firsts_end, first_err, first_ok}
use Rattle.sizes.specs.Sizes.{row_cells, board_cells}
use Rattle.board.specs.Refusals.{pairs_refuse}
use Rattle.board.specs.RefusalLaws.{pairs_front}
use Rattle.board.specs.declared.Row.{Row}
use Rattle.board.specs.declared.Board.{Board}
use Rattle.board.specs.Board.{filled}
use Rattle.reader.specs.File.{byte, two, trailer, cells_in, rows_in, name_in, weight_in, names_in, row_in, row_end, row_place, domain_in, lines_in, board_in}
use Rattle.reader.specs.Reading.{row_in_refuses, line_in_refuses, rest_refuses, rows_refuse}

-- where the next row starts
pub place_next : (file : List ℕ) (i at end : ℕ) → at ≡ row_place file i → end ≡ row_end file at → end ≡ row_place file (i + 1)
unfolding row_place
place_next file i at end e h = rw add-one (h ∙ ap (row_end file) e)

pub place_start : (file : List ℕ) (cells : ℕ) → cells ≡ cells_in file → 4 * cells ≡ row_place file 0
unfolding row_place
place_start file cells e = rw e

-- a loop through the rows: at one that is refused, and past the last
module _ (file : List ℕ) (i n at : ℕ) (p : at ≡ row_place file i) (rows : n ≡ rows_in file) (e : firsts (line_in_refuses file) i ≡ 0) where
  pub rows_err : (refusal : Refusal) → i < n → number_of refusal ≡ row_in_refuses file at → number_of refusal ≡ rows_refuse file
  unfolding rows_refuse
  rows_err refusal l h =
      let q : number_of refusal ≡ firsts (line_in_refuses file) n = firsts_err (line_in_refuses file) i n refusal l e (h ∙ ap (row_in_refuses file) p) in
      first_err refusal _ _ (q ∙ ap (firsts (line_in_refuses file)) rows)

  pub rows_end : (x : ℕ) → i ≤ n → n ≤ i → x ≡ rest_refuses at (trailer file) → x ≡ rows_refuse file
  unfolding rows_refuse
  rows_end x l g h =
      let m : i ≡ rows_in file = omega arith in
      first_ok (firsts (line_in_refuses file) (rows_in file)) _ x (firsts_end (line_in_refuses file) i (rows_in file) (omega arith) (omega arith) e)
      (h ∙ ap (λ (k : ℕ). rest_refuses k (trailer file)) (p ∙ ap (row_place file) m))

-- a loop through a row's pairs: past the last
pub row_is : (file : List ℕ) (at len low high k : ℕ) (names weights : List ℕ)
    → len ≡ byte file at → low ≡ two file (at + 1) → high ≡ two file (at + 3)
    → names ≡ filled (name_in file at) 0 k row_cells → weights ≡ filled (weight_in file at) 0 k row_cells → k ≤ len → len ≤ k
    → ◌≡◌ {A = Row} (record { len = len; low = low; high = high; names = names; weights = weights }) (row_in file at)
unfolding row_in
row_is file at len low high k names weights e l h n w a b = let m : k ≡ byte file at = omega arith in rw (e, l, h, n, w, m)

-- the pairs of a row that was read
pub pairs_read : (file : List ℕ) (at cells len x : ℕ) (row : Row) → row ≡ row_in file at → cells ≡ cells_in file → len ≡ byte file at
    → len ≤ length row.names → x ≡ pairs_refuse cells (take len row.names) (length (take len row.names))
    → x ≡ pairs_refuse (cells_in file) (names_in file at) (byte file at)
unfolding row_in
pairs_read file at cells len x row r c l fits e =
    let all : x ≡ pairs_refuse cells row.names len = e ∙ pairs_front cells len row.names fits in
    rw (r, c, l) at all

-- the board, from its parts
pub board_is : (file : List ℕ) (cells rows : ℕ) (domains : List ℕ) (lines : List Row) → cells ≡ cells_in file → rows ≡ rows_in file
    → domains ≡ filled (domain_in file) 0 cells board_cells → lines ≡ lines_in file
    → ◌≡◌ {A = Board} (record { cells = cells; domains = domains; rows = rows; lines = lines }) (board_in file)
unfolding board_in
board_is file cells rows domains lines c r d l = rw (d, l, c, r)
