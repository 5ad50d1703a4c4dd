use Rattle.map_geometry.specs.Level.{lists_of}
use Rattle.std.proofs.Common.{◌<◌, length, subst}
use Rattle.map_geometry.specs.Lists.{Lists}
use Rattle.map_geometry.proofs.Sound.{level_ends, some_subsectors}
use Rattle.map_geometry.proofs.level.Level.node_count.Goals as goal

pub returns-clause-ends : goal.returns-clause-ends
returns-clause-ends c = level_ends (lists_of c.self.inside.parts) c.args.self.now c.self.view_is c.self.invariant.parts.level

pub returns-clause-subsectors : goal.returns-clause-subsectors
returns-clause-subsectors c =
    let P : Lists → Type 0 = λ m. 0 < length m.subsectors in
    subst P c.self.view_is (some_subsectors (lists_of c.self.inside.parts) c.self.invariant.parts.level)
