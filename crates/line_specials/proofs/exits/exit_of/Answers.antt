use Rattle.std.proofs.Common.{◌≡◌, ◌-◌, arith, w16}
use Rattle.std.proofs.lemmas.Int.{to_z-of_z}
use Rattle.line_specials.proofs.Markers.{led_first, led_next, led_all}
use Rattle.line_specials.proofs.exits.exit_of.Goals as goal

pub loop-thing-init : goal.loop-thing-init
loop-thing-init c = (led_first _ _ _ _ c.thing_count-thing.ensures, tt, tt)

pub loop-thing-preserved : goal.loop-thing-preserved
loop-thing-preserved c = (
  led_next c.args.level.now c.args.world.now _ _ _ c.loop-thing.thing (c.loop-thing.thing - 1) c.loop-thing.invariant.0 (omega arith) c.exit_with-exit.ensures.within c.exit_with-exit.ensures.exit,
  c.exit_with-exit.ensures.sector,
  c.exit_with-exit.ensures.thing,
)

pub returns-clause-exit : goal.returns-clause-exit
returns-clause-exit c =
    let none : c.loop-thing.thing ≡ 0 = omega arith in
    rw (to_z-of_z w16 c.args.tag c.ranges.tag) at (led_all _ _ _ _ (rw none at c.loop-thing.invariant.0))
