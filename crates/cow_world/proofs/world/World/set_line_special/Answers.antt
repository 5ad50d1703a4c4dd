use Rattle.std.proofs.Common.{sym, subst, rules, set}
use Rattle.std.proofs.lemmas.List.{length-set}
use Rattle.cow_world.specs.Flat.{parts}
use Rattle.cow_world.specs.Fits.{KeepsFit}
use Rattle.cow_world.proofs.Fitting.{keeps-aside}
use Rattle.cow_world.proofs.world.World.set_line_special.Goals as goal

pub returns-clause-ok : goal.returns-clause-ok
returns-clause-ok c = search rules

pub returns-clause-fits : goal.returns-clause-fits
returns-clause-fits c =
    let w = c.args.self.now in
    subst (KeepsFit w) (sym (returns-clause-ok c)) (keeps-aside w (set (parts w).specials c.args.i c.args.to) (parts w).acted (parts w).rng (parts w).time (parts w).tics (parts w).exited (length-set (parts w).specials c.args.i c.args.to))
