use Rattle.std.proofs.Common.{sym, subst, rules}
use Rattle.cow_world.specs.Fits.{KeepsFit}
use Rattle.cow_world.proofs.Fitting.{keeps-end_mover}
use Rattle.cow_world.proofs.world.World.end_mover.Goals as goal

pub returns-clause-ok : goal.returns-clause-ok
returns-clause-ok c = search rules

pub returns-clause-fits : goal.returns-clause-fits
returns-clause-fits c = λ moves. subst (KeepsFit c.args.self.now) (sym (returns-clause-ok c)) (keeps-end_mover _ _ _ c.requires.there c.requires.sector moves)
