use Rattle.std.proofs.Common.{◌∙◌, rules, arith, w16, to_z}
use Rattle.std.proofs.lemmas.Int.{to_z-of_z}
use Rattle.cow_world.proofs.Keeps.{keeps_two}
use Rattle.map_geometry.proofs.Tagged.{tagged_fewer, tagged_on}
use Rattle.light_fx.proofs.Begun.{greatest_next}
use Rattle.light_fx.proofs.line_lights.light_greatest.Goals as goal

pub loop-sector-smaller : goal.loop-sector-smaller
loop-sector-smaller c = tagged_fewer c.args.level.now _ c.loop-sector.from c.in-Some.sector c.in-Some.ensures.found

pub loop-sector-preserved : goal.loop-sector-preserved
loop-sector-preserved c =
    let light = to_z-of_z w16 c.greatest_so_far-greatest.result (record { sfits = c.greatest_so_far-greatest.type_inv }) ∙ c.greatest_so_far-greatest.ensures in (
      tagged_on _ c.args.level.now _ _ _ _ c.loop-sector.from c.in-Some.sector c.number_of-number.result c.loop-sector.invariant.0 c.in-Some.ensures.found c.in-Some.ensures.there c.number_of-number.ensures (greatest_next c.args.level.now c.loop-sector.world _ (to_z w16 c.loop-sector.greatest-bits) _ c.number_of-number.result light c.in_ok-set_light.ensures.ok),
      keeps_two _ _ _ c.loop-sector.invariant.1 c.in_ok-set_light.ensures.fits,
      search (rules, c.in_ok-set_light.ensures.ok) ∙ c.loop-sector.invariant.2,
      c.set_light.ensures.tics ∙ c.loop-sector.invariant.3,
      omega (arith, c.set_light.ensures.pages, c.loop-sector.invariant.4),
    )
