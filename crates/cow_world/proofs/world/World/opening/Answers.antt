use Rattle.std.proofs.Common.{◌≡◌, sym, ap, subst, arith, rules}
use Rattle.cow_world.specs.declared.records.Player.{Player}
use Rattle.std.proofs.lemmas.Grind.{common_steps}
use Rattle.cow_world.specs.Flat.{Gridded}
use Rattle.cow_world.specs.Fits.{FitsLevel, FitsBut}
use Rattle.cow_world.proofs.Opened.{no_movers, fits-opening, fits_level-opening}
use Rattle.cow_world.proofs.world.World.opening.Goals as goal

pub invariant_of-result : goal.invariant_of-result
invariant_of-result c = rw c.in_ok-new.ensures (record {
  movers = no_movers _ _ _ c.in_ok-opening_sectors.ensures.sectors;
  thinkers = λ k d below. absurd (omega arith);
  player = let none : c.no_player.result.thing ≡ 0 = ap (λ (p : Player). p.thing) c.no_player.ensures in omega (arith, none);
  acted = grind (arith, common_steps);
  exited = omega arith;
  few_sectors = c.in_ok-opening_sectors.ensures.few;
  few_things = omega arith;
  few_thinkers = omega arith;
  entries = λ _. rw c.in_ok-new-2.ensures.order (λ k d below. absurd (omega arith));
  blocks = λ _. c.in_ok-new-2.ensures.blocks;
  no_sectors = λ end ended. absurd cc;
  no_specials = λ end ended. absurd cc;
  no_things = λ end ended. absurd cc;
  no_thinkers = λ end ended. absurd cc;
})

pub returns-clause-opening : goal.returns-clause-opening
returns-clause-opening c = search rules

pub returns-clause-fits : goal.returns-clause-fits
returns-clause-fits c = λ tables place.
    let Fits : Gridded → Type 0 = FitsBut c.args.level.now tables place in
    subst Fits (sym (returns-clause-opening c)) (fits-opening c.args.level.now tables place)

pub returns-clause-fits_level : goal.returns-clause-fits_level
returns-clause-fits_level c = subst (FitsLevel c.args.level.now) (sym (returns-clause-opening c)) (fits_level-opening c.args.level.now)
