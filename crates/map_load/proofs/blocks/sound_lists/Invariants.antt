use Rattle.map_load.proofs.BlockLists.{Judged}
use Rattle.map_load.proofs.blocks.sound_lists.Given as goal

abbrev pub invariant-loop-k : goal.invariant-loop-k
invariant-loop-k l = Judged l.words l.lines l.sound.items l.rest_is_sound l.k
