use Rattle.std.proofs.Common.{sym, subst, rules}
use Rattle.cow_world.specs.Fits.{KeepsFit}
use Rattle.cow_world.proofs.Fitting.{keeps-set_thing}
use Rattle.cow_world.proofs.world.World.set_thing.Goals as goal

pub returns-clause-ok : goal.returns-clause-ok
returns-clause-ok c = search rules

pub returns-clause-fits : goal.returns-clause-fits
returns-clause-fits c = λ same. subst (KeepsFit c.args.self.now) (sym (returns-clause-ok c)) (keeps-set_thing _ _ _ c.requires.there same)
