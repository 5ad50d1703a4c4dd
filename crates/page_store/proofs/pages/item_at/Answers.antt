use Rattle.page_store.specs.Under.{under}
use Rattle.page_store.proofs.Pieces.{place_of, item_within, item_of}
use Rattle.page_store.proofs.pages.item_at.Goals as goal

pub bounds-pages-i : goal.bounds-pages-i
bounds-pages-i g c = (place_of (under c.args.base.now c.args.settled.now) c.args.pages.now c.args.i c.requires.paged c.requires.there).0

pub item-requires-clause-there : goal.item-requires-clause-there
item-requires-clause-there g c = item_within (under c.args.base.now c.args.settled.now) c.args.pages.now c.args.i c.index-pages-i.result c.requires.paged c.requires.there c.index-pages-i.is

pub returns : goal.returns
returns g c =
    item_of (under c.args.base.now c.args.settled.now) c.args.pages.now c.args.i c.index-pages-i.result c.item.result c.requires.paged c.requires.there c.index-pages-i.is
    c.item.ensures
