use Rattle.std.proofs.lemmas.Result.{on_ok_weaker}
use Rattle.cow_world.proofs.Keeps.{keeps_three}
use Rattle.light_fx.proofs.lights.turn_flicker.Goals as goal

pub returns-clause-fits : goal.returns-clause-fits
returns-clause-fits c = on_ok_weaker c.set_count.result (λ kept. keeps_three _ _ _ _ c.draw.ensures.fits c.in_ok-set_light.ensures.fits kept) c.set_count.ensures.fits
