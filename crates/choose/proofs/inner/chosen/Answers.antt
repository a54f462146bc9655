-- `inner::chosen` meets its contract: a board with an empty domain is dead; else going through the candidates comes to the choice. Assumes nothing.
use mathlib.Core.Path.{sym, ap, ◌∙◌}
use native.Mathlib.Omega.{arith}
use Rattle.settling.specs.Settling.{Accepted}
use Rattle.settling.specs.Boards.{rows_of}
use Rattle.settling.proofs.BoardLaws.{sound_accepted}
use Rattle.choosing.specs.Going.{outcome}
use Rattle.choosing.proofs.ChoiceLaws.{dies, by_going, leader_fits}
use Rattle.beat.specs.Beat.{ties_of, candidate_of, leader_of}
use Rattle.choose.specs.AdviceLaws.{each_leader}
use Rattle.choose.specs.StepLaws.{rows_short}
use Rattle.choose.proofs.inner.chosen.Goals as goal
use Rattle.choose.proofs.inner.chosen.Goals.{After-shared_slice_known-1}

accepted : (c : After-shared_slice_known-1) → Accepted (rows_of c.args.board) c.args.domains.now
accepted c = sound_accepted c.args.board c.requires.sound c.args.domains.now c.requires.cells (λ i. omega (arith, c.shared_slice_known-1.given i))

pub returns-then-some_empty-clause-result_value : goal.returns-then-some_empty-clause-result_value
returns-then-some_empty-clause-result_value c = dies _ _ _ (sym c.some_empty.ensures ∙ c.if-some_empty.true)

pub advice_of-requires : goal.advice_of-requires
advice_of-requires c =
    let a = c.args in
    each_leader _ _ (λ x e.
    leader_fits (ties_of a.ties) (rows_of a.board) a.domains.now (accepted (goal.at.advice_of-requires c).After-shared_slice_known-1) c.requires.consistent (rows_short a.board c.requires.sound) _ c.with_rows.ensures.result_value (candidate_of x) (ap leader_of e))

pub returns-clause-result_value : goal.returns-clause-result_value
returns-clause-result_value c =
    let a = c.args in
    let none = sym c.some_empty.ensures ∙ c.if-some_empty.false in
    c.advice_of.ensures
    ∙ ap outcome c.with_rows.ensures.result_value
    ∙ sym (by_going (ties_of a.ties) (rows_of a.board) a.domains.now (accepted (goal.at.returns-clause-result_value c).After-shared_slice_known-1) c.requires.consistent none)
