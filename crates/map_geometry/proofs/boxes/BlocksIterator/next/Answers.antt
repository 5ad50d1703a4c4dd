use Rattle.std.proofs.Common.{rules, ◌≡◌, ◌+ℤ◌, ◌<ℤ◌, ◌≤ℤ◌, pos, true, false, FitsSigned, w32, arith}
use Rattle.std.specs.Prelude.{int_lt}
use Rattle.std.proofs.lemmas.Int.{ints, to_z-of_z}
use Rattle.map_geometry.proofs.Spans.{next_fits}
use Rattle.map_geometry.proofs.Walked.{step_past, step_empty, step_up, step_right}
use Rattle.map_geometry.proofs.boxes.BlocksIterator.next.Goals as goal
use Rattle.map_geometry.proofs.boxes.BlocksIterator.next.Goals.{then-at-self-via-then-at-self, then-at-self-via-else-at-self+then-at-self-2}

pub returns-then-at-self-clause-steps : goal.returns-then-at-self-clause-steps
returns-then-at-self-clause-steps c =
    let box = c.self.inside.blocks in
    let at = c.self.inside.at in
    let column_fits : FitsSigned w32 at.column = search rules in
    let right_fits : FitsSigned w32 box.right = search rules in
    let row_fits : FitsSigned w32 at.row = search rules in
    let top_fits : FitsSigned w32 box.top = search rules in
    let column = to_z-of_z w32 at.column column_fits in
    let right = to_z-of_z w32 box.right right_fits in
    let row = to_z-of_z w32 at.row row_fits in
    let top = to_z-of_z w32 box.top top_fits in
    elim c.then-at-self.branch [
      | then-at-self-via-then-at-self w ↦ let none = step_past box at c.args.self.now c.self.view_is (rw (column, right) at w.if-at-self.true) in (none, none)
      | then-at-self-via-else-at-self+then-at-self-2 w ↦ let none = step_empty box at c.args.self.now c.self.view_is c.self.invariant.row (rw (row, top) at w.if-at-self-2.true) in (none, none)
    ]

pub returns-then-at-self-3-clause-steps : goal.returns-then-at-self-3-clause-steps
returns-then-at-self-3-clause-steps c =
    let box = c.self.inside.blocks in
    let at = c.self.inside.at in
    let column_fits : FitsSigned w32 at.column = search rules in
    let right_fits : FitsSigned w32 box.right = search rules in
    let row_fits : FitsSigned w32 at.row = search rules in
    let top_fits : FitsSigned w32 box.top = search rules in
    let column = to_z-of_z w32 at.column column_fits in
    let right = to_z-of_z w32 box.right right_fits in
    let row = to_z-of_z w32 at.row row_fits in
    let top = to_z-of_z w32 box.top top_fits in
    let below : int_lt at.row box.top ≡ true = rw (row, top) at c.if-at-self-3.true in
    let under : at.row <ℤ box.top = search (arith, ints, below) in
    let next = to_z-of_z w32 (at.row +ℤ pos 1) (next_fits at.row box.top row_fits top_fits under) in
    rw (row, next) (step_up box at c.args.self.now c.self.view_is (rw (column, right) at c.if-at-self.false) below)

pub returns-then-at-self-3-clause-goes : goal.returns-then-at-self-3-clause-goes
returns-then-at-self-3-clause-goes c = let steps = returns-then-at-self-3-clause-steps c in search rules

pub returns-else-at-self-3-clause-steps : goal.returns-else-at-self-3-clause-steps
returns-else-at-self-3-clause-steps c =
    let box = c.self.inside.blocks in
    let at = c.self.inside.at in
    let column_fits : FitsSigned w32 at.column = search rules in
    let right_fits : FitsSigned w32 box.right = search rules in
    let row_fits : FitsSigned w32 at.row = search rules in
    let top_fits : FitsSigned w32 box.top = search rules in
    let bottom_fits : FitsSigned w32 box.bottom = search rules in
    let column = to_z-of_z w32 at.column column_fits in
    let right = to_z-of_z w32 box.right right_fits in
    let row = to_z-of_z w32 at.row row_fits in
    let top = to_z-of_z w32 box.top top_fits in
    let bottom = to_z-of_z w32 box.bottom bottom_fits in
    let inside : int_lt box.right at.column ≡ false = rw (column, right) at c.if-at-self.false in
    let within : at.column ≤ℤ box.right = search (arith, ints, inside) in
    let small : at.column <ℤ pos 65536 = omega (arith, ints, within, c.self.invariant.right) in
    let small_fits : FitsSigned w32 (pos 65536) = search rules in
    let next = to_z-of_z w32 (at.column +ℤ pos 1) (next_fits at.column (pos 65536) column_fits small_fits small) in
    rw (column, next, bottom) (step_right box at c.args.self.now c.self.view_is inside (rw (row, top) at c.if-at-self-2.false) (rw (row, top) at c.if-at-self-3.false))

pub returns-else-at-self-3-clause-goes : goal.returns-else-at-self-3-clause-goes
returns-else-at-self-3-clause-goes c = let steps = returns-else-at-self-3-clause-steps c in search rules
