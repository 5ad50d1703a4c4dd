use Rattle.std.proofs.Common.{w32}
use Rattle.std.proofs.lemmas.Int.{to_z-of_z}
use Rattle.map_geometry.specs.Level.{lists_of}
use Rattle.map_geometry.proofs.Kept.{block_read, block_there}
use Rattle.map_geometry.proofs.level.Level.block_lines.Goals as goal

pub returns-in-Some-clause-lines : goal.returns-in-Some-clause-lines
returns-in-Some-clause-lines c =
    let column = to_z-of_z w32 c.args.column c.ranges.column in
    let row = to_z-of_z w32 c.args.row c.ranges.row in
    block_read (lists_of c.self.inside.parts) c.args.self.now c.self.view_is c.args.column c.args.row c.in-Some.cell c.cell-place.result c.deref.result.now c.until_mark.result.now (rw (column, row) at c.in-Some.ensures.cell) c.cell-place.ensures.entry c.deref.ensures.value c.until_mark.ensures

pub returns-in-Some-clause-there : goal.returns-in-Some-clause-there
returns-in-Some-clause-there c =
    block_there (lists_of c.self.inside.parts) c.args.self.now c.self.view_is c.cell-place.result c.deref.result.now c.until_mark.result.now c.deref.ensures.value c.until_mark.ensures c.cell-place.ensures.sound.entries
