-- What a file that is not refused is known to be. Definitions only.
use Rattle.std.specs.Prelude.{◌≡◌, List, ℕ, ◌+◌, ◌*◌, ◌≤◌, ◌<◌, length}
use Rattle.sizes.specs.Sizes.{file_size}
use Rattle.board.specs.Board.{mark}
use Rattle.board.specs.Refusals.{sizes_refuse}
use Rattle.board.specs.Sound.{SoundSizes, SoundHead}
use Rattle.reader.specs.File.{byte, two, trailer, start_in, cells_in, rows_in, mark_in, row_end, row_place}
use Rattle.reader.specs.Reading.{row_in_refuses}

-- its trailer
pub record SoundTrailer (file : List ℕ) : Type 0 where
  pub marked : mark_in file ≡ mark
  pub sizes_none : sizes_refuse (cells_in file) (rows_in file) ≡ 0
  pub sizes : SoundSizes (cells_in file) (rows_in file)
  pub start : start_in file ≡ 4 * cells_in file
  pub inside : 4 * cells_in file ≤ trailer file

-- a row of it
pub record SoundRowIn (file : List ℕ) (at : ℕ) : Type 0 where
  pub head : SoundHead (byte file at) (two file (at + 1)) (two file (at + 3))
  pub fits : row_end file at ≤ trailer file
  pub none : row_in_refuses file at ≡ 0

-- the whole of it
pub record SoundFile (file : List ℕ) : Type 0 where
  pub long : 6 ≤ length file
  pub short : length file ≤ file_size
  pub tail : SoundTrailer file
  pub line : (i : ℕ) → i < rows_in file → SoundRowIn file (row_place file i)
  pub whole : row_place file (rows_in file) ≡ trailer file
