use Rattle.std.proofs.Common.{◌<◌, sym, arith}
use Rattle.page_store.specs.Over.{seen}
use Rattle.cow_world.proofs.KeptPlaces.{many_made, stands_first, stands_whole, stands_nowhere}
use Rattle.cow_world.proofs.kept_thinkers.KeptThinkers.position.Goals as goal

pub returns-then-is_whole : goal.returns-then-is_whole
returns-then-is_whole c =
    let list = c.args.self.now in
    let kept = seen c.args.base.now list.kept in
    let there : c.args.place < list.made = omega (arith, c.requires.there, many_made list.made list.revived.items kept) in
    sym (stands_whole kept c.requires.list.1.rise list.made c.args.place c.requires.list.1.places
    (c.is_whole.ensures c.args.base.now c.requires.list.0 c.if-is_whole.true) there)

pub returns-then-stands_there : goal.returns-then-stands_there
returns-then-stands_there c =
    let there = c.stands_there.ensures.there c.if-stands_there.true in
    sym (stands_first (seen c.args.base.now c.args.self.now.kept) c.requires.list.1.rise c.args.place c.args.place there.0 there.1)

pub returns-then-stands_there-2 : goal.returns-then-stands_there-2
returns-then-stands_there-2 c =
    let there = c.stands_there-2.ensures.there c.if-stands_there-2.true in
    sym (stands_first (seen c.args.base.now c.args.self.now.kept) c.requires.list.1.rise c.args.place c.first_from-k.result there.0 there.1)

pub returns : goal.returns
returns c =
    let found = c.first_from-k in
    sym (stands_nowhere (seen c.args.base.now c.args.self.now.kept) c.requires.list.1.rise c.args.place found.result found.ensures.before found.ensures.after
    (c.stands_there-2.ensures.apart c.if-stands_there-2.false))
