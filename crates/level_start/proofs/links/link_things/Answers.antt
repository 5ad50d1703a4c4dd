use Rattle.std.proofs.Common.{◌≡◌, length, rules}
use Rattle.cow_world.specs.Flat.{parts}
use Rattle.level_start.specs.Links.{is_linked, linked_things}
use Rattle.level_start.proofs.Linked.{sought_below, sought_rise}
use Rattle.level_start.proofs.links.link_things.Goals as goal

pub link_all-requires-clause-there : goal.link_all-requires-clause-there
link_all-requires-clause-there c =
    let is : c.deref.result.now ≡ linked_things c.args.tables.now c.args.world.now = search rules in
    sought_below (is_linked c.args.tables.now c.args.world.now) (length (parts c.args.world.now).things) c.deref.result.now is

pub link_all-requires-clause-rising : goal.link_all-requires-clause-rising
link_all-requires-clause-rising c =
    let is : c.deref.result.now ≡ linked_things c.args.tables.now c.args.world.now = search rules in
    sought_rise (is_linked c.args.tables.now c.args.world.now) (length (parts c.args.world.now).things) c.deref.result.now is
