-- What is said one after another of a search that was not refused is what the program promises to print. Assumes nothing.
use Rattle.std.specs.Prelude.{◌≡◌, List, ℕ, ◌≤◌, codes, Option, Result, Ok, Err}
use Rattle.std.proofs.Common.{subst, sym}
use Rattle.std.specs.Result.{OnOk}
use Rattle.std.specs.Io.KnownBytes.{Appends}
use Rattle.std.proofs.KnownBytes.{Appends-trans}
use Rattle.told.specs.Told.{Told, says}
use Rattle.sizes.specs.Sizes.{board_cells}
use Rattle.board.specs.declared.Board.{Board}
use Rattle.reader.specs.Reading.{read_keeps}
use Rattle.search.specs.Finishing.{Word, Lent, lent, search_says, search_leaves}
use Rattle.search.specs.Request1.{left_most}
use Rattle.lines.specs.Lines.{ended_text, cells_text}
use Rattle.finish.specs.Finished.{word_text, printed, no_cells, no_levels, no_table, finish_text}

pub finished : (a b d e : Option (List ℕ)) (file : List ℕ) (given left : ℕ) (word : Word) (board : Board) (room stack forward backward : List ℕ)
    → says word ≡ search_says file given no_cells no_levels no_table no_table
    → lent left room stack forward backward ≡ search_leaves file given no_cells no_levels no_table no_table
    → board ≡ read_keeps file
    → (left ≤ given → Appends a b (ended_text (word_text word) given left))
    → Appends b d (codes "\n")
    → Appends d e (cells_text board.cells room board_cells)
    → Appends a e (finish_text file given)
finished a b d e file given left word board room stack forward backward p q s h k m =
    let most : left ≤ given = subst (λ (l : Lent). l.choices ≤ given) (sym q) (left_most file no_cells no_levels no_table no_table given) in
    let all = Appends-trans a b e _ _ (h most) (Appends-trans b d e _ _ k m) in
    subst (λ (t : Told Word). Appends a e (printed t given (read_keeps file).cells (search_leaves file given no_cells no_levels no_table no_table))) p
    (subst (λ (l : Lent). Appends a e (printed (says word) given (read_keeps file).cells l)) q
    (subst (λ (x : Board). Appends a e (printed (says word) given x.cells (lent left room stack forward backward))) s all))

-- the last of what is said may fail
pub last_said : {T E : Type 0} (r : Result T E) (P Q : Type 0) → (P → Q) → OnOk r P → OnOk r Q
last_said (Ok v) P Q f h = f h
last_said (Err e) P Q f h = h
