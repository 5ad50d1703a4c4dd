use Rattle.std.proofs.Common.{arith}
use Rattle.page_store.specs.Under.{under}
use Rattle.page_store.proofs.Pieces.{under_more}
use Rattle.page_store.proofs.pages.pages_over.Goals as goal

pub loop-k-preserved : goal.loop-k-preserved
loop-k-preserved g c =
    let more = under_more (under c.args.base.now c.args.settled.now) c.loop-k.pages.items c.loop-k.k c.loop-k.invariant.paged c.loop-k.invariant.so_far (omega (arith, c.loop-k-test.true, c.div_ceil-count.ensures, c.requires, c.loop-k.auto.k-end)) in
    record { paged = rw c.in_ok-push.ensures.items more.0; so_far = rw c.in_ok-push.ensures.items more.1 }
