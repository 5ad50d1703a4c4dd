use Rattle.std.proofs.Common.{arith}
use Rattle.page_store.specs.Under.{under}
use Rattle.page_store.proofs.Pieces.{few_pages}
use Rattle.page_store.proofs.pages.Pages.settle.Goals as goal

pub returns-in_err-table-clause-most : goal.returns-in_err-table-clause-most
returns-in_err-table-clause-most g c = omega (arith, c.share_all.ensures.most, few_pages (under c.args.base.now c.args.self.now.settled) c.args.self.now.pages.items c.args.self.now.len c.requires.store)

pub returns-in_err-self-clause-most : goal.returns-in_err-self-clause-most
returns-in_err-self-clause-most g c = omega (arith, c.share_all.ensures.most, few_pages (under c.args.base.now c.args.self.now.settled) c.args.self.now.pages.items c.args.self.now.len c.requires.store)

pub returns-clause-most : goal.returns-clause-most
returns-clause-most g c = omega (arith, c.share_all.ensures.most, few_pages (under c.args.base.now c.args.self.now.settled) c.args.self.now.pages.items c.args.self.now.len c.requires.store)
