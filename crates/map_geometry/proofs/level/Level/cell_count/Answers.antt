use Rattle.std.proofs.Common.{rules}
use Rattle.map_geometry.specs.Level.{lists_of}
use Rattle.map_geometry.proofs.Sound.{cells_read}
use Rattle.map_geometry.proofs.level.Level.cell_count.Goals as goal

pub returns-clause-grid : goal.returns-clause-grid
returns-clause-grid c = cells_read (lists_of c.self.inside.parts) c.args.self.now c.self.view_is c.self.invariant.parts.level c.len.result (search (rules, c.len.ensures))
