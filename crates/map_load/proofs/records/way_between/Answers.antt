use Rattle.std.proofs.Common.{rules}
use Rattle.std.proofs.lemmas.Int.{wraps}
use Rattle.map_load.proofs.records.way_between.Goals as goal

pub returns : goal.returns
returns c = search (rules, wraps)
