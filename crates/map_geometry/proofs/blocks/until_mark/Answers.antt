use Rattle.std.proofs.Common.{◌==◌}
use Rattle.map_geometry.specs.Blocks.{end_mark}
use Rattle.map_geometry.proofs.Kept.{before_some, before_none}
use Rattle.map_geometry.proofs.blocks.until_mark.Goals as goal

pub returns-in-Some : goal.returns-in-Some
returns-in-Some c = before_some (λ word. word == end_mark) c.args.words.now c.in-Some.place c.in-Some.ensures.place

pub returns-in-None : goal.returns-in-None
returns-in-None c = before_none (λ word. word == end_mark) c.args.words.now c.in-None.ensures.place
