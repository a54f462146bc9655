-- `count` meets its contract: past the refusals the tables are filled for a sound row, in which the place lies. Assumes nothing.
use Rattle.std.proofs.Common.{length, sym}
use Rattle.told.proofs.ToldLaws.{neither}
use Rattle.row.specs.Answers.{row_refuses, place_refuses}
use Rattle.row.specs.AnswerLaws.{row_sound, place_sound}
use Rattle.row.specs.CellLaws.{just_filled}
use Rattle.row.proofs.count.Goals as goal

pub count-requires : goal.count-requires
count-requires c =
    let a = c.args in
    let row = row_refuses a.weights.now a.domains.now a.low a.high a.forward.now a.backward.now in
    let z = neither row (place_refuses (length a.domains.now) a.place a.value) (sym c.in_ok-count_refuses.ensures) in
    let sound = (row_sound a.weights.now a.domains.now _ _ a.forward.now a.backward.now z.0).sound in
    let place = place_sound _ _ _ z.1 in
    (just_filled _ _ _ _ _ _ _ _ sound c.fill.ensures.forward_after c.fill.ensures.backward_after, place.0, place.1)
