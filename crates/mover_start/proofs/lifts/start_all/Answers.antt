use Rattle.std.proofs.Common.{◌∙◌, refl, arith, rules, w16}
use Rattle.std.proofs.lemmas.Int.{to_z-of_z}
use Rattle.cow_world.proofs.Keeps.{keeps_same, keeps_two}
use Rattle.mover_start.proofs.Tagwise.{left_first, left_next, left_none}
use Rattle.mover_start.proofs.lifts.start_all.Goals as goal

pub loop-sector-init : goal.loop-sector-init
loop-sector-init c = (left_first _ _ _ _, keeps_same _, refl, omega arith)

pub start_in-requires-clause-fits : goal.start_in-requires-clause-fits
start_in-requires-clause-fits c = c.loop-sector.invariant.1.level c.args.level.now c.requires.fits

pub loop-sector-preserved : goal.loop-sector-preserved
loop-sector-preserved c = (
  left_next _ c.args.level.now _ _ _ _ c.loop-sector.from c.in-Some.sector c.number_of-number.result c.loop-sector.invariant.0 c.in-Some.ensures.found c.in-Some.ensures.there c.number_of-number.ensures c.in_ok-started.ensures.plays,
  keeps_two _ _ _ c.loop-sector.invariant.1 c.in_ok-started.ensures.fits,
  c.start_in.ensures.tics ∙ c.loop-sector.invariant.2,
  omega (arith, c.start_in.ensures.pages, c.loop-sector.invariant.3),
)

pub returns-clause-plays : goal.returns-clause-plays
returns-clause-plays c = rw (to_z-of_z w16 c.args.tag c.ranges.tag) at (left_none _ _ _ _ _ _ c.loop-sector.invariant.0 (search rules))
