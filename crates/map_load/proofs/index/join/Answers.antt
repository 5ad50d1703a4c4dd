use Rattle.std.proofs.Common.{◌≡◌, ◌<◌, length, arith, rules, ap, ◌∙◌, List, ℕ}
use Rattle.map_geometry.specs.Level.{lists_of}
use Rattle.map_load.specs.declared.index.SectorLines.{SectorLines}
use Rattle.map_load.specs.Index.{first_lines}
use Rattle.map_load.proofs.Gathered.{gathered_there, outlines_more, index_of}
use Rattle.map_load.proofs.index.join.Goals as goal

-- the lines of the next sector
own : (c : goal.After-len) → c.deref.result.now ≡ first_lines (lists_of c.args.parts.now) (length c.args.parts.now.lines.items) c.loop-sector.sector-index
own c =
    let inside : c.loop-sector.sector-index < length c.args.parts.now.sectors.items = omega (arith, c.loop-sector-test.true, c.requires.len) in
    c.deref.ensures.value ∙ ap (λ (sector : SectorLines). sector.lines.items) c.sector-item.is ∙ c.requires.each c.loop-sector.sector-index c.sector-item.result inside

pub outline-outline-requires : goal.outline-outline-requires
outline-outline-requires c = gathered_there (lists_of c.args.parts.now) c.loop-sector.sector-index c.deref.result.now (own c)

pub loop-sector-preserved : goal.loop-sector-preserved
loop-sector-preserved c =
    let parts = c.args.parts.now in
    let sector = c.loop-sector.sector-index in
    let lines = c.deref.result.now in
    let joined = c.loop-sector.joined in
    let inside : sector < length parts.sectors.items = omega (arith, c.loop-sector-test.true, c.requires.len) in
    let own : lines ≡ first_lines (lists_of parts) (length parts.lines.items) sector =
    c.deref.ensures.value ∙ ap (λ (s : SectorLines). s.lines.items) c.sector-item.is ∙ c.requires.each sector c.sector-item.result inside in
    let first : c.outline-outline.result.first ≡ length joined.items = omega (arith, c.outline-outline.ensures.first, c.len.ensures, joined.ok.0) in
    let again : c.deref-in-loop-sector.result.now ≡ lines = search rules in
    rw (c.in_ok-extend_from_slice.ensures.items, c.in_ok-push.ensures.items, again)
    (outlines_more (lists_of parts) joined.items lines c.loop-sector.outlines.items sector c.outline-outline.result c.loop-sector.invariant own first c.outline-outline.ensures.count c.outline-outline.ensures.blocks)
