use Rattle.std.proofs.Common.{◌<◌, length, arith}
use Rattle.page_store.proofs.Pieces.{tabled_there, tabled_within, tabled_item}
use Rattle.page_store.proofs.settled.item_at.Goals as goal

pub bounds-table-k : goal.bounds-table-k
bounds-table-k g c = tabled_there c.args.base.now c.args.table.now c.requires.paged c.args.k c.args.at c.requires.within c.requires.there

pub item-requires : goal.item-requires
item-requires g c = tabled_within c.args.base.now c.args.table.now c.requires.paged c.args.k c.args.at c.index-table-k.result c.requires.within c.requires.there c.index-table-k.is

pub returns : goal.returns
returns g c =
    tabled_item c.args.base.now c.args.table.now c.requires.paged c.args.k c.args.at c.index-table-k.result c.item.result c.requires.within c.requires.there c.index-table-k.is
    c.item.ensures

pub offset_bounds-table-k : goal.offset_bounds-table-k
offset_bounds-table-k g c =
    let there : c.args.k < length c.args.table.now = tabled_there c.args.base.now c.args.table.now c.requires.paged c.args.k c.args.at c.requires.within c.requires.there in
    omega (arith, there)
