use Rattle.std.proofs.Common.{◌∙◌, sym}
use Rattle.page_store.proofs.Pieces.{seen_over, store_over}
use Rattle.page_store.proofs.pages.Pages.fork.Goals as goal

pub returns-clause-forked : goal.returns-clause-forked
returns-clause-forked g c = record {
  settled = c.in_ok-again.ensures.settled c.args.base.now c.settle.ensures.over.settled;
  store = store_over _ _ _ _ _ (c.in_ok-again.ensures.under c.args.base.now) (c.new.ensures.items ∙ sym c.in_ok-settle.ensures.none) c.settle.ensures.over.store;
}

pub returns-clause-same : goal.returns-clause-same
returns-clause-same g c =
    seen_over _ _ _ _ _ (c.in_ok-again.ensures.under c.args.base.now) (c.new.ensures.items ∙ sym c.in_ok-settle.ensures.none) ∙ c.settle.ensures.kept
