use Rattle.std.proofs.Common.{rules}
use Rattle.build_edits.proofs.Joined.{tic_of}
use Rattle.build_edits.proofs.blocks.tic_at.Goals as goal

pub returns : goal.returns
returns c = record {
  tic = tic_of c.args.blocks.now.items c.args.place c.find_spot-found.result.block c.find_spot-found.result.place c.index.result.now c.index-2.result.now
      c.find_spot-found.ensures.spot (search rules) (search rules) c.requires.there;
}
