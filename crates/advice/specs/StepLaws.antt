-- What each step of the board call leaves, and an answer read back from what it says. Assumes nothing.
use Rattle.std.specs.Prelude.{◌≡◌, List, ◌++◌, ℕ, ◌≤◌, length, take, drop, Result, Ok}
use Rattle.std.proofs.Common.{sym, ap₂, ◌∙◌}
use Rattle.std.proofs.Math.Path.{ap}
use Rattle.std.proofs.Math.Seq.{take-length}
use Rattle.told.specs.declared.Refusal.{Refusal}
use Rattle.listing.specs.Listing.{onto}
use Rattle.listing.specs.Places.{place_length, place_take, onto_take, onto_drop, onto_all, onto_part}
use Rattle.board.specs.declared.Board.{Board}
use Rattle.board.specs.Sound.{SoundBoard}
use Rattle.board.specs.RefusalLaws.{board_sound}
use Rattle.reader.specs.File.{board_in}
use Rattle.reader.specs.Reading.{file_refuses, read_says, told as readTold}
use Rattle.reader.specs.ReadingLaws.{read_sound, said_read}
use Rattle.settling.specs.Settling.{Row, Settled, settle, Consistent}
use Rattle.settling.proofs.Settles.{settle_length}
use Rattle.settling.specs.Boards.{rows_of, settle_room}
use Rattle.settle.specs.declared.Tally.{Tally}
use Rattle.settle.specs.Settle.{tally_of}
use Rattle.settling.proofs.BoardLaws.{settled_consistent}
use Rattle.choosing.specs.Choosing.{Choice, Ties, to_lowest, choose}
use Rattle.choose.specs.Steps.{Choosable}
use Rattle.choose.specs.declared.Advice.{Advice}
use Rattle.choose.specs.Advice.{told as adviceTold}
use Rattle.choose.specs.AdviceLaws.{advice_of, advice_back}
use Rattle.advice.specs.declared.Advised.{Advised}
use Rattle.advice.specs.Advising.{Said, said_by, domains_of, settled_of, said_on, said_of}

-- ---- rooms written at the front

front_take : (xs room held : List ℕ) (n : ℕ) → length xs ≡ n → held ≡ onto xs room → take n held ≡ xs
front_take xs room held n l e = ap₂ (λ (k : ℕ) (h : List ℕ). take k h) (sym l) e ∙ onto_take xs room

-- as many written over them again
onto_again : (xs ys room : List ℕ) → length ys ≡ length xs → onto ys (onto xs room) ≡ onto ys room
unfolding onto
onto_again xs ys room l = ap (λ (rest : List ℕ). ys ++ rest) (rw l (onto_drop xs room))

-- ---- a board that is settled in the room

abbrev said : Tally → Choice → Said
said tally choice = record { passes = tally.passes; struck = tally.struck; choice = choice }

module _ (board : Board) where
  domains_length : length (domains_of board) ≡ board.cells
  domains_length = place_length _ board.cells

  -- domains of the cells stored at the front
  pub stored : (room new : List ℕ) → board.cells ≤ length board.domains → new ≡ take board.cells board.domains → new ++ drop board.cells room ≡ onto (domains_of board) room
  stored room new l e =
      ap (λ (d : List ℕ). d ++ drop board.cells room) (e ∙ place_take 0 board.domains board.cells l)
      ∙ onto_part (domains_of board) room board.cells domains_length

  pub left_length : length (settled_of board).left ≡ board.cells
  unfolding settled_of
  left_length = settle_length (rows_of board) (domains_of board) ∙ domains_length

  -- the domains that were stored are those that are settled
  pub settled_of_lem : (room held : List ℕ) → held ≡ onto (domains_of board) room → settle_room board held ≡ settled_of board
  unfolding settled_of
  settled_of_lem room held e = ap (settle (rows_of board)) (front_take (domains_of board) room held board.cells domains_length e)

  -- and what is left is written over them
  pub settled_onto : (room held new : List ℕ) → held ≡ onto (domains_of board) room → new ≡ onto (settle_room board held).left held → new ≡ onto (settled_of board).left room
  settled_onto room held new e q =
      q
      ∙ ap₂ (λ (s : Settled) (h : List ℕ). onto s.left h) (settled_of_lem room held e) e
      ∙ onto_again (domains_of board) (settled_of board).left room (left_length ∙ sym domains_length)

  -- it is consistent
  pub left_consistent : SoundBoard board → Consistent (rows_of board) (settled_of board).left
  unfolding settled_of
  left_consistent sound = settled_consistent board sound (domains_of board)

  -- ---- in a slice of just the cells

  module _ (d new : List ℕ) (cells : length d ≡ board.cells) where
    settled_alike : settle_room board d ≡ settle (rows_of board) d
    settled_alike = ap (settle (rows_of board)) (ap (λ (k : ℕ). take k d) (sym cells) ∙ take-length d)

    pub settles_whole : new ≡ onto (settle_room board d).left d → new ≡ (settle (rows_of board) d).left
    settles_whole e = e ∙ ap (λ (s : Settled). onto s.left d) settled_alike ∙ onto_all (settle (rows_of board) d).left d (settle_length (rows_of board) d)

    -- they are consistent, and so may be chosen on
    pub choosable : SoundBoard board → new ≡ onto (settle_room board d).left d → Choosable board new
    choosable sound e =
        let w : (length new ≡ board.cells) × Consistent (rows_of board) new = rw (settles_whole e) (settle_length (rows_of board) d ∙ cells, settled_consistent board sound d) in
        record { sound = sound; cells = w.0; consistent = w.1 }

    -- what is then said
    pub looked : (ties : Ties) (tally : Tally) (choice : Choice) → tally ≡ tally_of (settle_room board d) → new ≡ onto (settle_room board d).left d
        → choice ≡ choose ties (rows_of board) new → said tally choice ≡ said_on ties (rows_of board) d
    looked ties tally choice t e q = ap₂ said (t ∙ ap tally_of settled_alike) (q ∙ ap (choose ties (rows_of board)) (settles_whole e))

  -- domains stored in such a slice at the front of a room are those that are settled, and what is left of them stands at the front
  module _ (d held : List ℕ) (cells : length d ≡ board.cells) (e : held ≡ onto (domains_of board) d) where
    pub stored_whole : held ≡ domains_of board
    stored_whole = e ∙ onto_all (domains_of board) d (domains_length ∙ sym cells)

    pub front_settled : (room new : List ℕ) → new ≡ (settle (rows_of board) held).left → new ++ drop board.cells room ≡ onto (settled_of board).left room
    unfolding settled_of
    front_settled room new q =
        ap (λ (x : List ℕ). x ++ drop board.cells room) (q ∙ ap (λ (x : List ℕ). (settle (rows_of board) x).left) stored_whole) ∙ onto_part (settled_of board).left room board.cells left_length

    pub front_said : (s : Said) → s ≡ said_on to_lowest (rows_of board) held → s ≡ said_of board
    unfolding settled_of
    front_said s q = q ∙ ap (said_on to_lowest (rows_of board)) stored_whole

-- ---- the call

-- a board that was read is sound
pub read_is_sound : (file : List ℕ) (board : Board) → file_refuses file ≡ 0 → board ≡ board_in file → SoundBoard board
read_is_sound file board z e = rw e (board_sound (board_in file) (read_sound file z))

pub said_sound : (file : List ℕ) (board : Board) (outcome : Result (Unit {0}) Refusal) {u : Unit {0}} → outcome ≡ Ok u → readTold outcome board ≡ read_says file → SoundBoard board
said_sound file board outcome r e = let z = said_read file board outcome r e in read_is_sound file board z.0 z.1

-- what a caller knows of the choice that has taken it apart
pub chosen_is : (ties : Ties) (rs : List Row) (d : List ℕ) (a : Advised) (x : Advice) → said_by a ≡ said_on ties rs d → a.advice ≡ x → adviceTold x ≡ choose ties rs (settle rs d).left
chosen_is ties rs d a x q e = ap adviceTold (sym e) ∙ ap (λ (s : Said). s.choice) q

-- ---- what was answered, read back from what is said

abbrev pub advised_of : Said → Advised
advised_of said = record { tally = record { passes = said.passes; struck = said.struck }; advice = advice_of said.choice }

pub advised_back : (a : Advised) → advised_of (said_by a) ≡ a
advised_back a = ap (λ (x : Advice). record { tally = a.tally; advice = x }) (advice_back a.advice)
