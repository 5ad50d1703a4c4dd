use Rattle.std.proofs.Common.{sym, subst, rules}
use Rattle.cow_world.specs.Fits.{KeepsFit}
use Rattle.cow_world.proofs.Fitting.{keeps-set_thinker, keeps-going_on}
use Rattle.cow_world.proofs.world.World.set_thinker.Goals as goal

pub returns-clause-ok : goal.returns-clause-ok
returns-clause-ok c = search rules

pub returns-clause-fits : goal.returns-clause-fits
returns-clause-fits c = λ serves. subst (KeepsFit c.args.self.now) (sym (returns-clause-ok c)) (keeps-set_thinker _ _ _ c.requires.there serves)

pub returns-clause-goes_on : goal.returns-clause-goes_on
returns-clause-goes_on c = λ on. subst (KeepsFit c.args.self.now) (sym (returns-clause-ok c)) (keeps-going_on _ _ _ c.requires.there on)
