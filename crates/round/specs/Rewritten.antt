-- The bytes of a board that was read are the file's. Assumes nothing.
use Rattle.std.specs.Prelude.{◌≡◌, List, ◌++◌, ℕ, suc, ◌+◌, ◌*◌, ◌/◌, ◌%◌, ◌≤◌, ◌<◌}
use Rattle.std.proofs.Common.{sym, ap, ◌∙◌}
use native.Mathlib.Omega.{arith}
use Rattle.std.proofs.Math.ListN.{length, length-append}
use Rattle.sizes.specs.Sizes.{row_cells, board_cells, board_rows}
use Rattle.board.specs.Board.{zero_row, blank_row, filled}
use Rattle.board.specs.BoardLaws.{filled_at}
use Rattle.reader.specs.File.{byte, two, four, trailer, cells_in, rows_in, domain_in, name_in, weight_in, row_in, row_end, row_place, line_in, board_in}
use Rattle.reader.specs.Sound.{SoundFile}
use Rattle.writer.specs.Bytes.{joined, two_bytes, four_bytes, domain_bytes, pair_bytes, row_bytes, line_bytes, trailer_bytes, file_of}
use Rattle.writer.specs.BytesLaws.{row_size, domains_size, file_size_lem}
use Rattle.round.specs.Stands.{Stands, none, byte_more, both, places, each, whole}

module _ (file : List ℕ) (bytes : (k : ℕ) → byte file k < 256) where
  two_stands : (at : ℕ) → at + 2 ≤ length file → Stands file at (two_bytes (two file at))
  two_stands at l =
      let a = bytes at in
      let b = bytes (at + 1) in
      byte_more (omega arith) (omega arith) (byte_more (omega arith) (omega arith) none)

  four_stands : (at : ℕ) → at + 4 ≤ length file → Stands file at (four_bytes (four file at))
  four_stands at l =
      let a = bytes at in
      let b = bytes (at + 1) in
      let low : four file at % 65536 ≡ two file at = omega arith in
      let high : four file at / 65536 ≡ two file (at + 2) = omega arith in
      let s : Stands file at (two_bytes (four file at % 65536)) = rw low (two_stands at (omega arith)) in
      let t : Stands file (at + 2) (two_bytes (four file at / 65536)) = rw high (two_stands (at + 2) (omega arith)) in
      both s t

  pair_stands : (at len k : ℕ) → k < len → at + 5 + 2 * len ≤ length file
      → Stands file (at + 5 + 2 * k) (pair_bytes (filled (name_in file at) 0 len row_cells) (filled (weight_in file at) 0 len row_cells) k)
  pair_stands at len k l h =
      let n = filled_at (name_in file at) 0 len row_cells k 0 l in
      let w = filled_at (weight_in file at) 0 len row_cells k 0 l in
      let a = bytes (at + 5 + 2 * k) in
      let next : at + 6 + 2 * k ≡ at + 5 + 2 * k + 1 = omega arith in
      byte_more (omega arith) (omega arith) (byte_more (omega arith) (sym (w ∙ ap (byte file) next)) none)

  row_stands : (at : ℕ) → row_end file at ≤ length file → Stands file at (row_bytes (row_in file at))
  unfolding row_bytes row_in
  row_stands at h =
      let a = bytes at in
      let pairs = pair_bytes (row_in file at).names (row_in file at).weights in
      let start : at + 5 + 2 * 0 ≡ at + 5 = omega arith in
      both (both (byte_more (omega arith) (omega arith) (two_stands (at + 1) (omega arith))) (two_stands (at + 3) (omega arith)))
      (rw start at (each pairs (λ (k : ℕ). at + 5 + 2 * k) (byte file at) (λ k l. omega arith) (λ k l. pair_stands at (byte file at) k l h)))

  module _ (f : SoundFile file) where
    domains_stand : Stands file 0 (joined (domain_bytes (board_in file).domains) (cells_in file))
    unfolding board_in
    domains_stand =
        each (domain_bytes (board_in file).domains) (λ (i : ℕ). 4 * i) (cells_in file) (λ i l. omega arith)
        (λ i l. rw (filled_at (domain_in file) 0 (cells_in file) board_cells i 0 l) (four_stands (4 * i) (omega (arith, f.tail.inside))))

    line_is : (i : ℕ) → i < rows_in file → line_bytes (board_in file).lines i ≡ row_bytes (line_in file i)
    unfolding board_in
    line_is i l = rw (filled_at (line_in file) zero_row (rows_in file) board_rows i blank_row l)

    line_next : (i : ℕ) → i < rows_in file → row_place file (suc i) ≡ row_place file i + length (line_bytes (board_in file).lines i)
    unfolding row_place row_in
    line_next i l = rw (line_is i l, row_size) (omega arith)

    lines_stand : Stands file (row_place file 0) (joined (line_bytes (board_in file).lines) (rows_in file))
    lines_stand =
        each (line_bytes (board_in file).lines) (row_place file) (rows_in file) line_next
        (λ i l. rw (line_is i l) (row_stands (row_place file i) (omega (arith, (f.line i l).fits))))

    trailer_stands : Stands file (trailer file) (trailer_bytes (cells_in file) (rows_in file))
    trailer_stands =
        let l = f.long in
        let t = trailer file in
        let c = bytes (t + 2) in
        let r = bytes (t + 3) in
        let row : t + 2 + 1 ≡ t + 3 = omega arith in
        let end : t + 2 + 1 + 1 ≡ t + 4 = omega arith in
        let s = rw f.tail.start at (two_stands t (omega arith)) in
        let m = rw (f.tail.marked, ← end) at (two_stands (t + 4) (omega arith)) in
        let e = ap (byte file) row in
        both s (byte_more (omega arith) (omega arith) (byte_more (omega arith) (omega arith) m))

    -- the law
    pub rewritten : file_of (board_in file) ≡ file
    unfolding file_of board_in row_place
    rewritten =
        let domains = joined (domain_bytes (board_in file).domains) (cells_in file) in
        let lines = joined (line_bytes (board_in file).lines) (rows_in file) in
        let n = places (line_bytes (board_in file).lines) (row_place file) (rows_in file) line_next in
        let d = domains_size (board_in file).domains (cells_in file) in
        let a = length-append domains lines in
        let e = file_size_lem (board_in file) in
        let first : 0 + length domains ≡ row_place file 0 = omega arith in
        let last : 0 + length (domains ++ lines) ≡ trailer file = omega (arith, f.whole) in
        let l : Stands file (0 + length domains) lines = rw first lines_stand in
        let t : Stands file (0 + length (domains ++ lines)) (trailer_bytes (cells_in file) (rows_in file)) = rw last trailer_stands in
        whole (both (both domains_stand l) t) (omega (arith, f.whole, f.long))
