use Rattle.map_load.proofs.Derived.{derived}
use Rattle.map_load.proofs.level.load_lumps.Goals as goal

pub judged-requires : goal.judged-requires
judged-requires c = rw c.in_ok-parts.ensures (derived c.args.bytes.now c.args.spans.now c.args.episode_form)
