-- `inner::with_row` meets its contract: its tables are filled for the domains gathered, and the fronts of the row's arrays are the row that its record says. Assumes nothing.
use Prim.Native.Nat.{◌≤◌}
use mathlib.Core.Path.{◌≡◌}
use native.Mathlib.Omega.{arith}
use borrow.Author.Rules.{rules}
use lib.ListN.{length}
use Rattle.sizes.specs.Sizes.{row_cells}
use Rattle.settling.proofs.BoardLaws.{row_fronts}
use Rattle.choose.specs.StepLaws.{line_ready, line_kept}
use Rattle.choose.proofs.inner.with_row.Goals as goal
use Rattle.choose.proofs.inner.with_row.Goals.{Start}

-- the row is no longer than its arrays
names_fit : (c : Start) → c.args.line.len ≤ length c.args.line.names
names_fit c = let h : length c.args.line.names ≡ row_cells = search rules in omega (arith, c.requires.0.head.most)

weights_fit : (c : Start) → c.args.line.len ≤ length c.args.line.weights
weights_fit c = let h : length c.args.line.weights ≡ row_cells = search rules in omega (arith, c.requires.0.head.most)

pub invariant_of-row : goal.invariant_of-row
invariant_of-row c =
    let s = (goal.at.invariant_of-row c).Start in
    let k = c.fill-total.ensures in
    record {
      ready = line_ready c.args.line _ _ _ _ _ _ c.requires.0 (names_fit s) (weights_fit s) c.gather_row.ensures k.forward_after k.backward_after _ c.requires.1 k.value;
    }

pub returns-clause-after : goal.returns-clause-after
returns-clause-after c =
    let s = (goal.at.returns-clause-after c).Start in rw (← row_fronts c.args.line (names_fit s) (weights_fit s)) c.with_places.ensures

pub returns-clause-kept : goal.returns-clause-kept
returns-clause-kept c =
    let s = (goal.at.returns-clause-kept c).Start in
    let k = c.fill-total.ensures in
    let rooms = c.args.tables.now.rooms in
    let rest = line_kept c.args.line _ _ _ _ _ _ c.requires.0 (names_fit s) (weights_fit s) c.gather_row.ensures k.forward_after k.backward_after rooms.0 rooms.1 in
    record { rooms = k.same_rooms; forward = rest.0; backward = rest.1 }
