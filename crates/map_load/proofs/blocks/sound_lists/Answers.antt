use Rattle.std.proofs.Common.{◌≡◌, ◌+◌, ◌-◌, arith}
use Rattle.map_load.proofs.BlockLists.{Judged, judged_back}
use Rattle.map_load.proofs.blocks.sound_lists.Goals as goal

pub loop-k-preserved : goal.loop-k-preserved
loop-k-preserved c =
    let place : c.loop-k.k ≡ c.loop-k.k - 1 + 1 = omega arith in
    let before : Judged c.args.words.now c.args.lines c.loop-k.sound.items c.loop-k.rest_is_sound (c.loop-k.k - 1 + 1) = rw (← place) c.loop-k.invariant in
    judged_back c.args.words.now c.args.lines c.loop-k.sound.items c.loop-k.rest_is_sound _ (c.loop-k.k - 1) before (omega arith) c.is_sound-rest_is_sound.ensures
