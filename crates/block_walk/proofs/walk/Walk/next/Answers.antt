use Rattle.std.proofs.Common.{◌≡◌, rules, FitsSigned, w32, ◌∙◌}
use Rattle.std.proofs.lemmas.Int.{to_z-of_z}
use Rattle.fixed_angle.specs.Fixed.{units_of}
use Rattle.block_walk.proofs.Slopes.{same_bits, other_bits, next_column, next_row, next_none}
use Rattle.block_walk.proofs.walk.Walk.next.Goals as goal

pub returns-then-whole-self : goal.returns-then-whole-self
returns-then-whole-self c =
    let walk = c.args.self in
    let row : FitsSigned w32 c.args.self.block.row = search rules in
    let x_fits : FitsSigned w32 c.args.self.x.crossing = search rules in
    let x : c.whole.result ≡ units_of c.args.self.x.crossing = rw (to_z-of_z w32 c.args.self.x.crossing x_fits) at c.whole.ensures in
    c.across_column.ensures ∙ next_column walk c.whole.result x (same_bits c.whole.result c.args.self.block.row (record { sfits = c.whole.type_inv }) row c.if-whole-self.true)

pub returns-then-whole-self-2 : goal.returns-then-whole-self-2
returns-then-whole-self-2 c =
    let walk = c.args.self in
    let column : FitsSigned w32 c.args.self.block.column = search rules in
    let x_fits : FitsSigned w32 c.args.self.x.crossing = search rules in
    let y_fits : FitsSigned w32 c.args.self.y.crossing = search rules in
    let x : c.whole.result ≡ units_of c.args.self.x.crossing = rw (to_z-of_z w32 c.args.self.x.crossing x_fits) at c.whole.ensures in
    let y : c.whole-else-whole-self.result ≡ units_of c.args.self.y.crossing = rw (to_z-of_z w32 c.args.self.y.crossing y_fits) at c.whole-else-whole-self.ensures in
    c.across_row.ensures ∙ next_row walk c.whole.result c.whole-else-whole-self.result x y (other_bits c.whole.result c.args.self.block.row c.if-whole-self.false)
    (same_bits c.whole-else-whole-self.result c.args.self.block.column (record { sfits = c.whole-else-whole-self.type_inv }) column c.if-whole-self-2.true)

pub returns-else-whole-self-2 : goal.returns-else-whole-self-2
returns-else-whole-self-2 c =
    let walk = c.args.self in
    let x_fits : FitsSigned w32 c.args.self.x.crossing = search rules in
    let y_fits : FitsSigned w32 c.args.self.y.crossing = search rules in
    let x : c.whole.result ≡ units_of c.args.self.x.crossing = rw (to_z-of_z w32 c.args.self.x.crossing x_fits) at c.whole.ensures in
    let y : c.whole-else-whole-self.result ≡ units_of c.args.self.y.crossing = rw (to_z-of_z w32 c.args.self.y.crossing y_fits) at c.whole-else-whole-self.ensures in
    next_none walk c.whole.result c.whole-else-whole-self.result x y (other_bits c.whole.result c.args.self.block.row c.if-whole-self.false)
    (other_bits c.whole-else-whole-self.result c.args.self.block.column c.if-whole-self-2.false)
