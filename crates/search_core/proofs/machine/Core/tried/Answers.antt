use Rattle.std.proofs.Common.{◌∙◌, ap}
use Rattle.search_core.specs.Hand.{told}
use Rattle.search_core.specs.contracts.machine.Core.{the_view}
use Rattle.search_core.proofs.Steps.{tries_sound, tries_fits, tries_covers}
use Rattle.search_core.proofs.machine.Core.tried.Goals as goal

pub returns-clause-fits : goal.returns-clause-fits
returns-clause-fits c meets =
    tries_fits c.args.self.now (the_view c.self.inside) c.args.hand c.args.met meets c.index_mut.result.now c.told.new.self c.self.view_is c.requires.there c.requires.tries c.index_mut.ensures.value
    (c.told.ensures.told ∙ ap (told c.index_mut.result.now) c.verdict.ensures)

pub returns-clause-covers : goal.returns-clause-covers
returns-clause-covers c left =
    tries_covers c.args.self.now (the_view c.self.inside) c.args.hand c.args.met left c.index_mut.result.now c.told.new.self c.self.view_is c.requires.there c.requires.tries c.index_mut.ensures.value
    (c.told.ensures.told ∙ ap (told c.index_mut.result.now) c.verdict.ensures)

pub invariant_of-self : goal.invariant_of-self
invariant_of-self c =
    tries_sound c.args.self.now (the_view c.self.inside) c.args.hand c.args.met c.index_mut.result.now c.told.new.self c.self.view_is c.self.invariant c.requires.there c.requires.tries c.index_mut.ensures.value
    (c.told.ensures.told ∙ ap (told c.index_mut.result.now) c.verdict.ensures)

pub returns-clause-sound : goal.returns-clause-sound
returns-clause-sound c =
    tries_sound c.args.self.now (the_view c.self.inside) c.args.hand c.args.met c.index_mut.result.now c.told.new.self c.self.view_is c.self.invariant c.requires.there c.requires.tries c.index_mut.ensures.value
    (c.told.ensures.told ∙ ap (told c.index_mut.result.now) c.verdict.ensures)
