use Rattle.std.proofs.Common.{◌∙◌, rules, arith}
use Rattle.cow_world.proofs.Keeps.{keeps_two}
use Rattle.map_geometry.proofs.Tagged.{tagged_fewer, tagged_on}
use Rattle.light_fx.proofs.line_lights.light_all.Goals as goal

pub loop-sector-smaller : goal.loop-sector-smaller
loop-sector-smaller c = tagged_fewer c.args.level.now _ c.loop-sector.from c.in-Some.sector c.in-Some.ensures.found

pub loop-sector-preserved : goal.loop-sector-preserved
loop-sector-preserved c = (
  tagged_on _ c.args.level.now _ _ _ c.set_light.new.world c.loop-sector.from c.in-Some.sector c.number_of-number.result c.loop-sector.invariant.0 c.in-Some.ensures.found c.in-Some.ensures.there c.number_of-number.ensures c.in_ok-set_light.ensures.ok,
  keeps_two _ _ _ c.loop-sector.invariant.1 c.in_ok-set_light.ensures.fits,
  search (rules, c.in_ok-set_light.ensures.ok) ∙ c.loop-sector.invariant.2,
  c.set_light.ensures.tics ∙ c.loop-sector.invariant.3,
  omega (arith, c.set_light.ensures.pages, c.loop-sector.invariant.4),
)
