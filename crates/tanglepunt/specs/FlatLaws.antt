-- The reader's answer, flat, is what it tells. Assumes nothing.
use Rattle.std.specs.Prelude.{◌≡◌, List, ℕ, zero, suc, Result, Ok, Err}
use Rattle.std.proofs.Common.{arith}
use Rattle.told.specs.declared.Refusal.{Refusal}
use Rattle.told.specs.Told.{answer, leave, number_of}
use Rattle.board.specs.declared.Board.{Board}
use Rattle.board.specs.Board.{zero_board}
use Rattle.reader.specs.declared.Reading.{Reading}
use Rattle.reader.specs.File.{board_in}
use Rattle.reader.specs.Reading.{told, refusal_of, file_refuses, read_says, read_keeps}
use Rattle.tanglepunt.specs.Flat.{board_with, reading_of}

flat : (n : ℕ) (kept : Board) (outcome : Result (Unit {0}) Refusal) (board : Board) → told outcome board ≡ answer n kept → board ≡ leave n zero_board kept
    → board_with (refusal_of outcome) board ≡ reading_of (answer n kept)
flat zero kept (Ok u) board t b = rw b
flat zero kept (Err refusal) board t b = let z : ◌≡◌ {A = ℕ} 0 1 = cc in absurd (omega arith)
flat (suc n) kept (Ok u) board t b = let z : ◌≡◌ {A = ℕ} 0 1 = cc in absurd (omega arith)
flat (suc n) kept (Err refusal) board t b = let z : number_of refusal ≡ suc n = cc in rw (z, b)

pub flat_reading : (file : List ℕ) (x : Reading) → told x.outcome x.board ≡ read_says file → x.board ≡ read_keeps file
    → board_with (refusal_of x.outcome) x.board ≡ reading_of (read_says file)
flat_reading file x t b = flat (file_refuses file) (board_in file) x.outcome x.board t b
