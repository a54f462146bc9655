-- What the program prints of a board file and a number of choices. Definitions only.
use Rattle.std.specs.Prelude.{List, ◌++◌, ℕ, codes, replicate}
use Rattle.told.specs.Told.{Told, refused, says}
use Rattle.sizes.specs.Sizes.{board_cells, table_size, stack_size}
use Rattle.lines.specs.Lines.{refused_text, ended_text, cells_text}
use Rattle.reader.specs.Reading.{read_keeps}
use Rattle.search.specs.Finishing.{Word, it_is_solved, there_is_none, it_is_spent, Lent, search_says, search_leaves}

-- the word of an ending
abbrev pub word_text : Word → List ℕ
word_text it_is_solved = codes "SOLVED"
word_text there_is_none = codes "NONE"
word_text it_is_spent = codes "SPENT"

-- what a search said, with so many choices given, and what it left in what it was lent: a line of how it ended, and one for each of so many cells
abbrev pub printed : Told Word → ℕ → ℕ → Lent → List ℕ
printed (refused number) given cells lent = refused_text number
printed (says word) given cells lent = ended_text (word_text word) given lent.choices ++ (codes "\n" ++ cells_text cells lent.room board_cells)

-- all rooms are zero at first
abbrev pub no_cells : List ℕ
no_cells = replicate board_cells 0

abbrev pub no_levels : List ℕ
no_levels = replicate stack_size 0

abbrev pub no_table : List ℕ
no_table = replicate table_size 0

abbrev pub finish_text : List ℕ → ℕ → List ℕ
finish_text file given =
    printed (search_says file given no_cells no_levels no_table no_table) given (read_keeps file).cells
    (search_leaves file given no_cells no_levels no_table no_table)
