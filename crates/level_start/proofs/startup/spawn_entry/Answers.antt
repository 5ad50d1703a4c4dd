use Rattle.std.proofs.Common.{refl}
use Rattle.level_start.specs.declared.entries.Entry.TheVariants.{Skipped, Spawned}
use Rattle.level_start.proofs.Entered.{stands_still, stands_now}
use Rattle.level_start.proofs.startup.spawn_entry.Goals as goal

pub returns-in-Skipped-clause-stood : goal.returns-in-Skipped-clause-stood
returns-in-Skipped-clause-stood c =
    stands_still c.args.level.now c.args.tables.now c.args.skill c.args.i c.args.stood Skipped c.in-Skipped.ensures.entry refl c.requires.stood

pub returns-in_ok-spawn_player-in-Player-2-clause-stood : goal.returns-in_ok-spawn_player-in-Player-2-clause-stood
returns-in_ok-spawn_player-in-Player-2-clause-stood c = stands_now c.args.level.now c.args.tables.now c.args.skill c.args.i c.in-Player-2.ensures.entry

pub returns-in_ok-spawn_thing-in-Spawned-clause-stood : goal.returns-in_ok-spawn_thing-in-Spawned-clause-stood
returns-in_ok-spawn_thing-in-Spawned-clause-stood c =
    stands_still c.args.level.now c.args.tables.now c.args.skill c.args.i c.args.stood (Spawned c.in-Spawned.kind) c.in-Spawned.ensures.entry refl c.requires.stood
