-- Of a search that was not refused, the line of its ending and the cells are what the program promises to print. Assumes nothing.
use Rattle.search.specs.Finishing.{word_by}
use Rattle.finish.proofs.Printing.{finished, last_said}
use Rattle.finish.proofs.finish.Goals as goal

pub returns : goal.returns
returns g c =
    let lent = c.search.new in
    last_said c.cells.result _ _
    (λ said. finished (g.W.Write.contents c.args.out.now) (g.W.Write.contents c.ended.new.out) (g.W.Write.contents c.text.new.out) (g.W.Write.contents c.cells.new.out)
    c.args.file.now c.args.given lent.choices (word_by c.in-Ok.ending) c.read.result.board lent.room lent.stack lent.forward lent.backward
    c.in-Ok.ensures.result_value c.search.ensures.lent_after c.read.ensures.board_kept (rw c.word_of.ensures at c.in_ok-ended.ensures) c.in_ok-text.ensures said)
    c.cells.ensures
