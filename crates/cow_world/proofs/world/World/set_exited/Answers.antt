use Rattle.std.proofs.Common.{sym, subst, refl, rules}
use Rattle.cow_world.specs.Flat.{parts}
use Rattle.cow_world.specs.Fits.{KeepsFit}
use Rattle.cow_world.proofs.Fitting.{keeps-aside}
use Rattle.cow_world.proofs.world.World.set_exited.Goals as goal

pub returns-clause-ok : goal.returns-clause-ok
returns-clause-ok c = search rules

pub returns-clause-fits : goal.returns-clause-fits
returns-clause-fits c =
    let w = c.args.self.now in
    subst (KeepsFit w) (sym (returns-clause-ok c)) (keeps-aside w (parts w).specials (parts w).acted (parts w).rng (parts w).time (parts w).tics c.args.to (refl))
