use Rattle.map_geometry.specs.Level.{lists_of}
use Rattle.map_geometry.proofs.Sound.{size_of}
use Rattle.map_geometry.proofs.level.Level.width.Goals as goal

pub returns-clause-some : goal.returns-clause-some
returns-clause-some c = (size_of (lists_of c.self.inside.parts) c.self.invariant.parts.level).columns

pub returns-clause-below : goal.returns-clause-below
returns-clause-below c = (size_of (lists_of c.self.inside.parts) c.self.invariant.parts.level).columns_below
