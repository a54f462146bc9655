-- A file that is not refused is sound, and from its trailer the whole of it is read. Assumes nothing.
use Rattle.std.specs.Prelude.{◌≡◌, List, not, ℕ, ◌+◌, ◌*◌, ◌≤◌, length, eqb, ltb}
use Rattle.std.proofs.Common.{arith, take_all, ltb-false, le-ltb}
use Rattle.told.specs.Told.{when, first, firsts}
use Rattle.told.proofs.ToldLaws.{neither, not_held, not_differ, firsts_each}
use Rattle.sizes.specs.Sizes.{file_size}
use Rattle.board.specs.Refusals.{sizes_refuse, head_refuses, pairs_refuse, board_row_refuses}
use Rattle.board.specs.RefusalLaws.{sizes_sound, head_sound}
use Rattle.board.specs.Board.{mark}
use Rattle.reader.specs.File.{byte, two, trailer_size, trailer, file_at, start_in, cells_in, rows_in, mark_in, names_in, row_in, row_end, row_place}
use Rattle.reader.specs.Sound.{SoundTrailer, SoundRowIn, SoundFile}
use Rattle.reader.specs.Reading.{size_refuses, mark_refuses, start_refuses, trailer_refuses, row_in_refuses, line_in_refuses, rest_refuses, rows_refuse, file_refuses}

pub trailer_sound : (file : List ℕ) → trailer_refuses file ≡ 0 → SoundTrailer file
unfolding trailer_refuses
trailer_sound file e =
    let a = neither (mark_refuses (mark_in file)) _ e in
    let b = neither (sizes_refuse (cells_in file) (rows_in file)) (start_refuses (start_in file) (cells_in file) (trailer file)) a.1 in
    let c = neither (when (not (eqb (start_in file) (4 * cells_in file))) 9) (when (ltb (trailer file) (start_in file)) 9) b.1 in
    let start = not_differ (start_in file) (4 * cells_in file) 8 c.0 in
    record {
      marked = not_differ (mark_in file) mark 6 a.0;
      sizes_none = b.0;
      sizes = sizes_sound (cells_in file) (rows_in file) b.0;
      start = start;
      inside = rw start at (ltb-false (trailer file) (start_in file) (not_held (ltb (trailer file) (start_in file)) 8 c.1));
    }

pub row_in_sound : (file : List ℕ) (at : ℕ) → row_in_refuses file at ≡ 0 → SoundRowIn file at
unfolding row_in_refuses
row_in_sound file at e =
    let a = neither (when (ltb (trailer file) (at + 5)) 10) _ e in
    let b = neither (head_refuses (byte file at) (two file (at + 1)) (two file (at + 3))) _ a.1 in
    let c = neither (when (ltb (trailer file) (row_end file at)) 10) (pairs_refuse (cells_in file) (names_in file at) (byte file at)) b.1 in
    record {
      head = head_sound (byte file at) (two file (at + 1)) (two file (at + 3)) b.0;
      fits = ltb-false (trailer file) (row_end file at) (not_held (ltb (trailer file) (row_end file at)) 9 c.0);
      none = e;
    }

size_sound : (size : ℕ) → size_refuses size ≡ 0 → (6 ≤ size) × (size ≤ file_size)
size_sound size e =
    let z = neither (when (ltb size 6) 6) (when (ltb file_size size) 6) e in
    (ltb-false size 6 (not_held (ltb size 6) 5 z.0), ltb-false file_size size (not_held (ltb file_size size) 5 z.1))

pub long_enough : (size : ℕ) → size_refuses size ≡ 0 → 6 ≤ size
long_enough size e = (size_sound size e).0

pub file_sound : (file : List ℕ) → file_refuses file ≡ 0 → SoundFile file
unfolding file_refuses rows_refuse
file_sound file e =
    let a = neither (size_refuses (length file)) (first (trailer_refuses file) (rows_refuse file)) e in
    let b = neither (trailer_refuses file) (rows_refuse file) a.1 in
    let c = neither (firsts (line_in_refuses file) (rows_in file)) (rest_refuses (row_place file (rows_in file)) (trailer file)) b.1 in
    let size = size_sound (length file) a.0 in
    record {
      long = size.0;
      short = size.1;
      tail = trailer_sound file b.0;
      line = λ i l. row_in_sound file (row_place file i) (firsts_each (line_in_refuses file) (rows_in file) c.0 i l);
      whole = not_differ (row_place file (rows_in file)) (trailer file) 9 c.1;
    }

-- from its trailer, or from past it, the whole of it is read
pub file_at_whole : (file : List ℕ) (place : ℕ) → trailer file ≤ place → file_at file place ≡ file
file_at_whole file place l = take_all (place + trailer_size) file (omega arith)

-- a row that fits is refused as its record is
pub row_in_fits : (file : List ℕ) (at : ℕ) → row_end file at ≤ trailer file → row_in_refuses file at ≡ board_row_refuses (cells_in file) (row_in file at)
unfolding row_in_refuses board_row_refuses row_in
row_in_fits file at l =
    let h : at + 5 ≤ trailer file = omega arith in
    rw (le-ltb (trailer file) (at + 5) h, le-ltb (trailer file) (row_end file at) l)
