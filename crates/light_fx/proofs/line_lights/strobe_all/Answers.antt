use Rattle.std.proofs.Common.{◌∙◌, arith}
use Rattle.cow_world.proofs.Keeps.{keeps_two}
use Rattle.map_geometry.proofs.Tagged.{tagged_fewer, tagged_on}
use Rattle.light_fx.proofs.line_lights.strobe_all.Goals as goal

pub loop-sector-smaller : goal.loop-sector-smaller
loop-sector-smaller c = tagged_fewer c.args.level.now _ c.loop-sector.from c.in-Some.sector c.in-Some.ensures.found

pub loop-sector-preserved : goal.loop-sector-preserved
loop-sector-preserved c = (
  tagged_on _ c.args.level.now _ _ _ c.strobe_one.new.world c.loop-sector.from c.in-Some.sector c.number_of-number.result c.loop-sector.invariant.0 c.in-Some.ensures.found c.in-Some.ensures.there c.number_of-number.ensures (c.in_ok-strobe_one.ensures.ok),
  keeps_two _ _ _ c.loop-sector.invariant.1 c.in_ok-strobe_one.ensures.fits,
  c.strobe_one.ensures.grid ∙ c.loop-sector.invariant.2,
  c.strobe_one.ensures.tics ∙ c.loop-sector.invariant.3,
  omega (arith, c.strobe_one.ensures.pages, c.loop-sector.invariant.4),
)
