use Rattle.std.proofs.Common.{◌≡◌, ◌*◌, length, subst}
use Rattle.map_geometry.specs.Lists.{Lists}
use Rattle.map_geometry.specs.Level.{lists_of}
use Rattle.map_geometry.proofs.Sound.{size_of}
use Rattle.map_geometry.proofs.level.Level.height.Goals as goal

pub returns-clause-some : goal.returns-clause-some
returns-clause-some c = (size_of (lists_of c.self.inside.parts) c.self.invariant.parts.level).rows

pub returns-clause-below : goal.returns-clause-below
returns-clause-below c = (size_of (lists_of c.self.inside.parts) c.self.invariant.parts.level).rows_below

pub returns-clause-cells : goal.returns-clause-cells
returns-clause-cells c =
    let P : Lists → Type 0 = λ m. length m.cells ≡ m.width * c.self.inside.parts.height in
    subst P c.self.view_is (size_of (lists_of c.self.inside.parts) c.self.invariant.parts.level).cells
