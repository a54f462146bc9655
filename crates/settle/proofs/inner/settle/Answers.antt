-- `settle::inner::settle` meets its contract: it settles the front of the room. Assumes nothing.
use Rattle.std.proofs.Common.{◌∙◌, ap, List, ℕ, arith}
use lib.Seq.{length-take-le}
use Rattle.listing.specs.Listing.{onto}
use Rattle.listing.specs.Places.{onto_part}
use Rattle.settle.proofs.inner.settle.Goals as goal

pub returns-clause-room_after : goal.returns-clause-room_after
returns-clause-room_after c =
    let a = c.args in
    let front = length-take-le a.board.cells a.room.now c.requires.1 in
    onto_part _ a.room.now a.board.cells (omega arith) ∙ ap (λ (new : List ℕ). onto new a.room.now) c.settle_rows.ensures.domains_after
