use Rattle.map_geometry.specs.Level.{lists_of}
use Rattle.map_geometry.proofs.Sound.{node_read}
use Rattle.map_geometry.proofs.level.Level.node.Goals as goal

pub returns-clause-sound : goal.returns-clause-sound
returns-clause-sound c =
    node_read (lists_of c.self.inside.parts) c.args.self.now c.self.view_is c.self.invariant.parts.level c.args.i c.requires c.index.result.now c.index.ensures
