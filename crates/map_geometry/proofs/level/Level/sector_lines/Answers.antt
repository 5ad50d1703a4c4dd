use Rattle.std.proofs.Common.{◌≡◌, ◌+◌, ◌-◌, arith}
use Rattle.map_geometry.specs.Sectors.{IsOutline}
use Rattle.map_geometry.proofs.Kept.{outline_read, sector_lines_there}
use Rattle.map_geometry.proofs.level.Level.sector_lines.Goals as goal

pub returns-clause-lines : goal.returns-clause-lines
returns-clause-lines c =
    let outline = c.index-outline.result.now in
    let is : IsOutline c.args.self.now c.self.inside.parts.sector_lines.items c.args.i outline = outline_read c.self.inside.parts c.args.self.now c.self.view_is c.self.invariant.parts c.args.i c.requires outline c.index-outline.ensures in
    let span : outline.first + outline.count - outline.first ≡ outline.count = omega arith in
    rw (span, c.deref.ensures.value) is.lines

pub returns-clause-there : goal.returns-clause-there
returns-clause-there c = sector_lines_there c.args.self.now c.args.i _ (returns-clause-lines c)
