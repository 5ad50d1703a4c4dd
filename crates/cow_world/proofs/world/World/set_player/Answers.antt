use Rattle.std.proofs.Common.{sym, subst, rules}
use Rattle.cow_world.specs.Flat.{Gridded}
use Rattle.cow_world.specs.Fits.{KeepsFit, KeepsLevel, Fits}
use Rattle.cow_world.proofs.Fitting.{level-set_player, keeps-set_player, fits-set_player}
use Rattle.cow_world.proofs.world.World.set_player.Goals as goal

pub returns-clause-ok : goal.returns-clause-ok
returns-clause-ok c = search rules

pub returns-clause-keeps : goal.returns-clause-keeps
returns-clause-keeps c = λ stays. subst (KeepsFit c.args.self.now) (sym (returns-clause-ok c)) (keeps-set_player _ _ stays)

pub returns-clause-fits : goal.returns-clause-fits
returns-clause-fits c = λ alive level tables fits.
    let FitsBoth : Gridded → Type 0 = Fits level tables in
    subst FitsBoth (sym (returns-clause-ok c)) (fits-set_player _ _ c.requires.thing alive level tables fits)

pub returns-clause-level : goal.returns-clause-level
returns-clause-level c = subst (KeepsLevel c.args.self.now) (sym (returns-clause-ok c)) (level-set_player _ _)
