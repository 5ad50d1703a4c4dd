use Rattle.std.proofs.Common.{refl, ◌*◌, arith}
use Rattle.std.proofs.lemmas.Option.{slice_get_read}
use Rattle.key_frames.specs.Frames.{frame_tics}
use Rattle.key_frames.proofs.Kept.{replay_found, replay_nearer}
use Rattle.key_frames.proofs.play.world_from.Goals as goal

pub fork_after-requires : goal.fork_after-requires
fork_after-requires g c =
    let read = slice_get_read c.args.frames.now.items _ c.args.place c.index_mut.result.now refl
    c.requires.there c.index_mut.ensures.value in
    (c.requires.belong.1.each c.args.place c.index_mut.result.now read).fitting

pub returns-clause-world : goal.returns-clause-world
returns-clause-world g c =
    let read = slice_get_read c.args.frames.now.items _ c.args.place c.index_mut.result.now refl
    c.requires.there c.index_mut.ensures.value in
    replay_found g.G.Game c.args.game.now c.args.tics.now
    (frame_tics * c.args.place) c.args.to c.index_mut.result.now c.fork_after.result
    c.requires.from
    (replay_nearer g.G.Game c.args.game.now c.args.tics.now c.requires.belong.0 (frame_tics * c.args.place) c.index_mut.result.now (omega arith)
    (c.requires.belong.1.each c.args.place c.index_mut.result.now read))
    c.fork_after.ensures.played c.fork_after.ensures.fitting
