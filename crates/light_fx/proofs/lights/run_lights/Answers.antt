use Rattle.std.proofs.Common.{◌∙◌, rules, arith}
use Rattle.light_fx.proofs.Lamps.{played_next}
use Rattle.light_fx.proofs.lights.run_lights.Goals as goal

pub loop-i-preserved : goal.loop-i-preserved
loop-i-preserved c = (
  played_next c.args.tables.now c.args.world.now c.loop-i.world c.run_light.new.world c.loop-i.i c.loop-i.invariant.0 (search rules) c.in_ok-run_light.ensures.ok c.in_ok-run_light.ensures.fits,
  c.run_light.ensures.grid ∙ c.loop-i.invariant.1,
  c.run_light.ensures.tics ∙ c.loop-i.invariant.2,
  omega (arith, c.run_light.ensures.pages, c.loop-i.invariant.3),
)
