use Rattle.std.proofs.Common.{◌≡◌, [], ◌∷◌, None, sym, subst, rules, arith, length-append}
use Rattle.cow_world.specs.Fits.{KeepsFitWith}
use Rattle.cow_world.proofs.Fitting.{keeps-push_thing}
use Rattle.cow_world.proofs.Writes.{is_live}
use Rattle.cow_world.proofs.Entries.{entries-push}
use Rattle.cow_world.proofs.world.World.push_thing.Goals as goal

pub invariant_of-self-2 : goal.invariant_of-self-2
invariant_of-self-2 c =
    let live : c.self.inside.halted ≡ None = is_live _ _ _ _ c.self.view_is c.requires in
    rw c.in_ok-push_thing.ensures.ok
    (record {
      movers = c.self.invariant.movers;
      thinkers = c.self.invariant.thinkers;
      player = omega (arith, c.self.invariant.player, length-append c.self.inside.lists.things (c.args.thing ∷ []));
      acted = c.self.invariant.acted;
      exited = c.self.invariant.exited;
      few_sectors = c.self.invariant.few_sectors;
      few_things = omega (arith, length-append c.self.inside.lists.things (c.args.thing ∷ []));
      few_thinkers = c.self.invariant.few_thinkers;
      entries = λ _. entries-push _ _ _ _ (c.self.invariant.entries live);
      blocks = c.self.invariant.blocks;
      no_sectors = c.self.invariant.no_sectors;
      no_specials = c.self.invariant.no_specials;
      no_things = λ end ended. absurd cc;
      no_thinkers = c.self.invariant.no_thinkers;
    })

pub returns-clause-ok : goal.returns-clause-ok
returns-clause-ok c = search rules

pub returns-clause-fits : goal.returns-clause-fits
returns-clause-fits c = subst (KeepsFitWith c.args.thing c.args.self.now) (sym (returns-clause-ok c)) (keeps-push_thing c.args.self.now c.args.thing)
