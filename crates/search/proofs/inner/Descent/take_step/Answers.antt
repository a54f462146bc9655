-- `inner::Descent::take_step` meets its contract, way by way. Assumes nothing.
use Rattle.std.proofs.Common.{ℕ, ◌-◌, List, length, refl, ap, ◌∙◌}
use Rattle.settling.specs.Boards.{rows_of}
use Rattle.settling.proofs.Settles.{settle_length}
use Rattle.choosing.specs.Choosing.{to_lowest}
use Rattle.advice.specs.StepLaws.{chosen_is}
use Rattle.searching.specs.Searching.{lowests, cut_to, removed}
use Rattle.search.specs.Stack.{level, saved, UnderWay}
use Rattle.search.specs.StackLaws.{step_none, step_solved, step_spent, may_save, step_on, may_restore, step_back, none_left, one_left_lem}
use Rattle.search.proofs.inner.Descent.take_step.Goals as goal
use Rattle.search.proofs.inner.Descent.take_step.Goals.{Start}

-- the search is under way
way : (c : Start) → let s = c.args.self.now in UnderWay s.board.now s.levels s.purse s.domains.now s.stack.now
way c =
    let s = c.args.self.now in
    record { sound = s.sound; cells = s.cells; roomy = c.requires; stack_room = s.stack_room; purse_fits = s.purse_fits }

pub returns-then-self-eq0-clause-stepped : goal.returns-then-self-eq0-clause-stepped
returns-then-self-eq0-clause-stepped c =
    let s = c.args.self.now in
    step_none (way (goal.at.returns-then-self-eq0-clause-stepped c).Start) _ _ refl (chosen_is to_lowest (rows_of s.board.now) s.domains.now _ _ c.look.ensures.value c.in-Dead.is) c.if-self-eq0.true

pub restore-requires : goal.restore-requires
restore-requires c =
    may_restore (way (goal.at.restore-requires c).Start) _ c.look.ensures.domains_after c.if-self-eq0.false

pub returns-then-not-take_choice-clause-stepped : goal.returns-then-not-take_choice-clause-stepped
returns-then-not-take_choice-clause-stepped c =
    let s = c.args.self.now in
    let none = none_left s.purse _ _ c.take_choice.ensures c.if-not-take_choice.true in
    step_spent (way (goal.at.returns-then-not-take_choice-clause-stepped c).Start) _ _ none.1 _ _ (chosen_is to_lowest (rows_of s.board.now) s.domains.now _ _ c.look.ensures.value c.in-Advise.is) none.0

pub save-requires : goal.save-requires
save-requires c =
    let s = c.args.self.now in
    may_save (way (goal.at.save-requires c).Start) _ _ (chosen_is to_lowest (rows_of s.board.now) s.domains.now _ _ c.look.ensures.value c.in-Advise.is) _ c.look.ensures.domains_after

pub returns-else-self-eq0-clause-stepped : goal.returns-else-self-eq0-clause-stepped
returns-else-self-eq0-clause-stepped c =
    let s = c.args.self.now in
    let cells = ap length c.look.ensures.domains_after ∙ settle_length (rows_of s.board.now) s.domains.now in
    let back = c.restore.ensures.0 ∙ ap (λ (n : ℕ). level n (s.levels - 1) s.stack.now) cells in
    rw c.restore.ensures.1 (
    step_back s.levels (way (goal.at.returns-else-self-eq0-clause-stepped c).Start) _ _ refl (chosen_is to_lowest (rows_of s.board.now) s.domains.now _ _ c.look.ensures.value c.in-Dead.is) c.if-self-eq0.false back)

pub returns-in-Settled-clause-stepped : goal.returns-in-Settled-clause-stepped
returns-in-Settled-clause-stepped c =
    let s = c.args.self.now in
    step_solved (way (goal.at.returns-in-Settled-clause-stepped c).Start) _ _ refl (chosen_is to_lowest (rows_of s.board.now) s.domains.now _ _ c.look.ensures.value c.in-Settled.is) (c.cut_all_to_lowest.ensures ∙ ap lowests c.look.ensures.domains_after)

pub returns-else-not-take_choice-clause-stepped : goal.returns-else-not-take_choice-clause-stepped
returns-else-not-take_choice-clause-stepped c =
    let s = c.args.self.now in
    let o = one_left_lem s.purse _ _ c.take_choice.ensures c.if-not-take_choice.false in
    step_on (way (goal.at.returns-else-not-take_choice-clause-stepped c).Start) _ _ (chosen_is to_lowest (rows_of s.board.now) s.domains.now _ _ c.look.ensures.value c.in-Advise.is) _ _ _ o.0 o.1 o.2
    (c.save.ensures.0 ∙ ap (λ (d : List ℕ). cut_to d c.in-Advise.cell c.in-Advise.value) c.look.ensures.domains_after)
    (c.save.ensures.1 ∙ ap (λ (d : List ℕ). saved s.stack.now s.levels (removed d c.in-Advise.cell c.in-Advise.value)) c.look.ensures.domains_after)
