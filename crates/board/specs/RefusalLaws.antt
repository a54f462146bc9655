-- A board that is not refused is sound, and the same rows and the same boards are refused the same. Assumes nothing.
use Rattle.std.specs.Prelude.{◌≡◌, List, ℕ, ◌≤◌, ◌<◌, get_or, take, length, eqb, ltb, leb}
use Rattle.std.proofs.Common.{arith, ap, ◌∙◌, length-take-le}
use Rattle.std.proofs.lemmas.List.{get_or-take}
use Rattle.told.specs.Told.{firsts}
use borrow.Author.Tests.{eqb-false, ltb-false, leb-false}
use Rattle.told.specs.Told.{when}
use Rattle.told.proofs.ToldLaws.{neither, not_held, firsts_each, firsts_same}
use Rattle.sizes.specs.Sizes.{board_cells, board_rows, length_refuses, limits_refuse}
use Rattle.sizes.specs.SizeLaws.{length_sound, limits_sound}
use Rattle.board.specs.declared.Row.{Row}
use Rattle.board.specs.declared.Board.{Board}
use Rattle.board.specs.Board.{row_at, blank_row, SameRow, SameBoard}
use Rattle.board.specs.Sound.{SoundSizes, SoundHead, SoundLine, SoundBoard}
use Rattle.board.specs.Refusals.{sizes_refuse, head_refuses, unknown_refuses, same_name, repeat_refuses, pair_refuses, pairs_refuse, board_row_refuses, line_refuses, board_refuses}

pub sizes_sound : (cells rows : ℕ) → sizes_refuse cells rows ≡ 0 → SoundSizes cells rows
unfolding sizes_refuse
sizes_sound cells rows e =
    let a = neither (when (eqb cells 0) 8) _ e in
    let b = neither (when (ltb board_cells cells) 8) _ a.1 in
    let c = neither (when (eqb rows 0) 8) _ b.1 in
    let some = eqb-false cells 0 (not_held (eqb cells 0) 7 a.0) in
    let any = eqb-false rows 0 (not_held (eqb rows 0) 7 c.0) in
    record {
      cells_some = omega arith;
      cells_most = ltb-false board_cells cells (not_held (ltb board_cells cells) 7 b.0);
      rows_some = omega arith;
      rows_most = ltb-false board_rows rows (not_held (ltb board_rows rows) 7 c.1);
    }

pub head_sound : (len low high : ℕ) → head_refuses len low high ≡ 0 → SoundHead len low high
unfolding head_refuses
head_sound len low high e =
    let z = neither (length_refuses len) (limits_refuse low high) e in
    let l = length_sound len z.0 in
    let m = limits_sound low high z.1 in
    record { some = l.0; most = l.1; ordered = m.0; limit = m.1 }

module _ (cells len : ℕ) (names : List ℕ) (e : pairs_refuse cells names len ≡ 0) where
  pair_none : (k : ℕ) → k < len → (unknown_refuses cells (get_or names k 0) ≡ 0) × (repeat_refuses names k ≡ 0)
  unfolding pair_refuses
  pair_none k l = neither (unknown_refuses cells (get_or names k 0)) (repeat_refuses names k) (firsts_each (pair_refuses cells names) len e k l)

  pub pairs_known : (k : ℕ) → k < len → get_or names k 0 < cells
  pairs_known k l = leb-false cells (get_or names k 0) (not_held (leb cells (get_or names k 0)) 10 (pair_none k l).0)

  pub pairs_once : (j k : ℕ) → j < k → k < len → get_or names j 0 ≡ get_or names k 0 → ⊥
  unfolding repeat_refuses
  pairs_once j k h l =
      eqb-false (get_or names j 0) (get_or names k 0)
      (not_held (eqb (get_or names j 0) (get_or names k 0)) 11 (firsts_each (same_name names k) k (pair_none k l).1 j h))

pub row_sound : (cells : ℕ) (row : Row) → board_row_refuses cells row ≡ 0 → SoundLine cells row
unfolding board_row_refuses
row_sound cells row e =
    let z = neither (head_refuses row.len row.low row.high) (pairs_refuse cells row.names row.len) e in
    record {
      head = head_sound row.len row.low row.high z.0;
      known = pairs_known cells row.len row.names z.1;
      once = pairs_once cells row.len row.names z.1;
    }

pub board_sound : (board : Board) → board_refuses board ≡ 0 → SoundBoard board
unfolding board_refuses
board_sound board e =
    let z = neither (sizes_refuse board.cells board.rows) _ e in
    record {
      sizes = sizes_sound board.cells board.rows z.0;
      lines = λ i l. row_sound board.cells (row_at board.lines i) (firsts_each (line_refuses board.cells board.lines) board.rows z.1 i l);
    }

-- pairs that name the same cells are refused the same, and so are rows that are the same
module _ (cells : ℕ) (a b : List ℕ) (len : ℕ) (same : (k : ℕ) → k < len → get_or a k 0 ≡ get_or b k 0) where
  repeat_same : (k : ℕ) → k < len → repeat_refuses a k ≡ repeat_refuses b k
  unfolding repeat_refuses
  repeat_same k l = firsts_same (same_name a k) (same_name b k) k (λ j h. rw (same k l, same j (omega arith)))

  pairs_same : pairs_refuse cells a len ≡ pairs_refuse cells b len
  unfolding pair_refuses
  pairs_same = firsts_same (pair_refuses cells a) (pair_refuses cells b) len (λ k l. rw (same k l, repeat_same k l))

-- the pairs, and the rows, that stand at the front of an array
pub pairs_front : (cells len : ℕ) (names : List ℕ) → len ≤ length names → pairs_refuse cells (take len names) (length (take len names)) ≡ pairs_refuse cells names len
pairs_front cells len names h =
    ap (pairs_refuse cells (take len names)) (length-take-le len names h) ∙ pairs_same cells (take len names) names len (λ k l. get_or-take len names k 0 l)

pub rows_front : (cells rows : ℕ) (lines : List Row) → rows ≤ length lines → firsts (line_refuses cells (take rows lines)) (length (take rows lines)) ≡ firsts (line_refuses cells lines) rows
rows_front cells rows lines h =
    ap (firsts (line_refuses cells (take rows lines))) (length-take-le rows lines h)
    ∙ firsts_same (line_refuses cells (take rows lines)) (line_refuses cells lines) rows (λ i l. ap (board_row_refuses cells) (get_or-take rows lines i blank_row l))

pub row_same : (cells : ℕ) (a b : Row) → SameRow a b → board_row_refuses cells a ≡ board_row_refuses cells b
unfolding board_row_refuses
row_same cells a b s =
    rw (s.len, s.low, s.high, pairs_same cells a.names b.names b.len s.names)

pub board_same : (a b : Board) → SameBoard a b → board_refuses a ≡ board_refuses b
unfolding board_refuses
board_same a b s =
    let line : (i : ℕ) → i < b.rows → line_refuses b.cells a.lines i ≡ line_refuses b.cells b.lines i =
    λ i l. row_same b.cells (row_at a.lines i) (row_at b.lines i) (s.lines i l) in
    rw (s.cells, s.rows, firsts_same (line_refuses b.cells a.lines) (line_refuses b.cells b.lines) b.rows line)
