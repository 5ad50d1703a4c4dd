use Rattle.std.proofs.Common.{◌∙◌, rules, arith}
use Rattle.light_fx.proofs.Begun.{begun_next}
use Rattle.light_fx.proofs.begins.spawn_lights.Goals as goal

pub loop-sector-preserved : goal.loop-sector-preserved
loop-sector-preserved c = (
  begun_next c.args.level.now c.args.tables.now c.args.world.now c.loop-sector.world c.begin_in.new.world c.loop-sector.sector c.loop-sector.invariant.0 (search rules) c.in_ok-begin_in.ensures.ok c.in_ok-begin_in.ensures.fits,
  c.begin_in.ensures.grid ∙ c.loop-sector.invariant.1,
  c.begin_in.ensures.tics ∙ c.loop-sector.invariant.2,
  omega (arith, c.begin_in.ensures.pages, c.loop-sector.invariant.3),
)
