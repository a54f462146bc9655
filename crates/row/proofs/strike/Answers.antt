-- `strike` meets its contract: past the refusals the tables are filled for a sound row. Assumes nothing.
use Rattle.std.proofs.Common.{sym}
use Rattle.row.specs.AnswerLaws.{row_sound}
use Rattle.row.specs.CellLaws.{just_filled}
use Rattle.row.proofs.strike.Goals as goal

pub strike-requires : goal.strike-requires
strike-requires c =
    let a = c.args in
    let sound = (row_sound a.weights.now a.domains.now _ _ a.forward.now a.backward.now (sym c.in_ok-row_refuses.ensures)).sound in
    just_filled _ _ _ _ _ _ _ _ sound c.fill.ensures.forward_after c.fill.ensures.backward_after
