use Rattle.std.proofs.Common.{rules}
use Rattle.cow_world.specs.Fits.{KeepsFit}
use Rattle.cow_world.proofs.Keeps.{keeps_two}
use Rattle.light_fx.proofs.begins.begin_strobe.Goals as goal

pub returns-clause-fits : goal.returns-clause-fits
returns-clause-fits c =
    let pushed : KeepsFit c.draw.new.self c.push_thinker.new.self = search (rules, c.in_ok-push_thinker.ensures.fits) in
    keeps_two _ _ _ c.draw.ensures.fits pushed
