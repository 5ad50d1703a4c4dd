use Rattle.std.proofs.lemmas.Result.{on_ok_weaker}
use Rattle.cow_world.specs.Fits.{KeepsFit}
use Rattle.cow_world.proofs.Keeps.{keeps_two}
use Rattle.light_fx.proofs.begins.begin_in.Goals as goal
use Rattle.light_fx.proofs.begins.begin_in.Goals.{in-1+in_ok-begin_flash-in-1, in-2+in_ok-begin_strobe-in-2, in-3+in_ok-begin_strobe-in-3, in-8+in_ok-begin_glow-in-8, in-10+in_ok-begin_door-in-10, in-12+in_ok-begin_in_step-in-12, in-13+in_ok-begin_in_step-in-13, in-14+in_ok-begin_door-in-14, in-17+in_ok-begin_flicker-in-17}

pub returns-clause-fits : goal.returns-clause-fits
returns-clause-fits c =
    let begun : KeepsFit c.args.world.now c.match-sector.world =
    elim c.match-sector.branch [
      | in-1+in_ok-begin_flash-in-1 w ↦ rw w.world-is w.in_ok-begin_flash-in-1.ensures.fits
      | in-2+in_ok-begin_strobe-in-2 w ↦ rw w.world-is w.in_ok-begin_strobe-in-2.ensures.fits
      | in-3+in_ok-begin_strobe-in-3 w ↦ rw w.world-is w.in_ok-begin_strobe-in-3.ensures.fits
      | in-8+in_ok-begin_glow-in-8 w ↦ rw w.world-is w.in_ok-begin_glow-in-8.ensures.fits
      | in-10+in_ok-begin_door-in-10 w ↦ rw w.world-is w.in_ok-begin_door-in-10.ensures.fits
      | in-12+in_ok-begin_in_step-in-12 w ↦ rw w.world-is w.in_ok-begin_in_step-in-12.ensures.fits
      | in-13+in_ok-begin_in_step-in-13 w ↦ rw w.world-is w.in_ok-begin_in_step-in-13.ensures.fits
      | in-14+in_ok-begin_door-in-14 w ↦ rw w.world-is w.in_ok-begin_door-in-14.ensures.fits
      | in-17+in_ok-begin_flicker-in-17 w ↦ rw w.world-is w.in_ok-begin_flicker-in-17.ensures.fits
    ] in
    on_ok_weaker c.make_plain.result (λ kept. keeps_two _ _ _ begun kept) c.make_plain.ensures.fits
