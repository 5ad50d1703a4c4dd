use Rattle.std.proofs.Common.{sym, subst}
use Rattle.build_script.specs.Opened.{Opened}
use Rattle.build_script.specs.Searches.{IsRangeOn}
use Rattle.build_script.proofs.SearchLemmas.{narrowed_opened}
use Rattle.build_script.proofs.search.Search.narrow.Goals as goal

pub invariant_of-self : goal.invariant_of-self
invariant_of-self c =
    narrowed_opened c.self.inside.line c.self.inside.long c.self.inside.wants.items c.args.tics c.args.axis c.args.range c.self.inside.tics.items c.narrow.new.all.items c.narrow.ensures
    (subst (λ (search : Opened). IsRangeOn search.ranges.long c.args.axis c.args.range) (sym c.self.view_is) c.requires) c.self.invariant
