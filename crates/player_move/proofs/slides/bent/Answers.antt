use Rattle.std.proofs.Common.{◌≡◌, w32, ◌∙◌, ap}
use Rattle.std.proofs.lemmas.Int.{to_z-of_z}
use Rattle.cow_world.specs.Flat.{player_thing}
use Rattle.map_geometry.specs.Lists.{nth_line}
use Rattle.player_move.specs.Player.{player_of}
use Rattle.player_move.specs.Slides.{share_of, bend_of}
use Rattle.player_move.proofs.slides.bent.Goals as goal

pub returns : goal.returns
returns c =
    let part = to_z-of_z w32 c.args.part c.ranges.part in
    let share : c.share_of-to.result ≡ share_of (player_of c.args.world.now) c.args.part =
    rw (part, c.player.ensures.player) at c.share_of-to.ensures in
    c.bend.ensures
    ∙ ap (λ line. bend_of c.args.tables.now line c.own_thing.result c.share_of-to.result) c.line-line.ensures.entry
    ∙ ap (λ thing. bend_of c.args.tables.now (nth_line c.args.level.now c.args.line) thing c.share_of-to.result) c.own_thing.ensures
    ∙ ap (λ to. bend_of c.args.tables.now (nth_line c.args.level.now c.args.line) (player_thing c.args.world.now) to) share
