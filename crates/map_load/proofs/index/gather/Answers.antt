use Rattle.std.proofs.Common.{◌≡◌, ◌<◌, length, arith, rules}
use Rattle.map_geometry.specs.Level.{lists_of}
use Rattle.map_load.specs.Index.{AreEmpty, GainsLine}
use Rattle.map_load.proofs.Gathered.{lines_begin, lines_more}
use Rattle.map_load.proofs.index.gather.Goals as goal

pub loop-i-init : goal.loop-i-init
loop-i-init c =
    let parts = c.args.parts.now in
    let count : c.len.result ≡ length parts.sectors.items = omega (arith, c.len.ensures, parts.sectors.ok.0) in
    let empty : AreEmpty (length parts.sectors.items) c.in_ok-sectors.sectors.items = rw count at c.in_ok-sectors.ensures in
    lines_begin (lists_of parts) c.in_ok-sectors.sectors.items empty

pub loop-i-preserved : goal.loop-i-preserved
loop-i-preserved c =
    let parts = c.args.parts.now in
    let below : c.loop-i.i < length parts.lines.items = omega (arith, c.len-i-end.ensures, parts.lines.ok.0) in
    let same : c.in-Ok.number ≡ c.loop-i.i = search rules in
    let gains : GainsLine c.loop-i.sectors.items c.add_line.new.sectors.items c.index.result.now c.loop-i.i = rw same at c.in_ok-add_line.ensures in
    lines_more (lists_of parts) c.loop-i.i c.index.result.now c.loop-i.sectors.items c.add_line.new.sectors.items c.loop-i.invariant below c.index.ensures gains
