use Rattle.std.proofs.Common.{◌<◌, ◌∙◌, length, ap, arith}
use Rattle.std.proofs.lemmas.List.{length-map}
use Rattle.page_store.specs.Pages.{items_of}
use Rattle.page_store.specs.Under.{under}
use Rattle.page_store.proofs.Pieces.{pieces_stay, named_more}
use Rattle.page_store.proofs.pages.share_all.Goals as goal

pub returns-in_err-share-clause-kept : goal.returns-in_err-share-clause-kept
returns-in_err-share-clause-kept g c =
    let there : c.loop-k.k < length c.loop-k.pages.items =
    omega (arith, ap length c.loop-k.invariant.kept, length-map c.loop-k.pages.items (items_of (under c.args.base.now c.args.settled.now)), length-map c.args.pages.now.items (items_of (under c.args.base.now c.args.settled.now))) in
    pieces_stay (under c.args.base.now c.args.settled.now) c.loop-k.pages.items c.loop-k.k c.index_mut.result.now c.share.new.self there c.index_mut.ensures.value (c.share.ensures.kept (under c.args.base.now c.args.settled.now)) ∙ c.loop-k.invariant.kept

pub returns-in_err-push-clause-kept : goal.returns-in_err-push-clause-kept
returns-in_err-push-clause-kept g c =
    let there : c.loop-k.k < length c.loop-k.pages.items =
    omega (arith, ap length c.loop-k.invariant.kept, length-map c.loop-k.pages.items (items_of (under c.args.base.now c.args.settled.now)), length-map c.args.pages.now.items (items_of (under c.args.base.now c.args.settled.now))) in
    pieces_stay (under c.args.base.now c.args.settled.now) c.loop-k.pages.items c.loop-k.k c.index_mut.result.now c.share.new.self there c.index_mut.ensures.value (c.share.ensures.kept (under c.args.base.now c.args.settled.now)) ∙ c.loop-k.invariant.kept

pub loop-k-preserved : goal.loop-k-preserved
loop-k-preserved g c =
    let there : c.loop-k.k < length c.loop-k.pages.items =
    omega (arith, ap length c.loop-k.invariant.kept, length-map c.loop-k.pages.items (items_of (under c.args.base.now c.args.settled.now)), length-map c.args.pages.now.items (items_of (under c.args.base.now c.args.settled.now))) in
    record {
      kept = pieces_stay (under c.args.base.now c.args.settled.now) c.loop-k.pages.items c.loop-k.k c.index_mut.result.now c.share.new.self there c.index_mut.ensures.value (c.share.ensures.kept (under c.args.base.now c.args.settled.now)) ∙ c.loop-k.invariant.kept;
      named = rw c.in_ok-push.ensures.items (
          named_more c.args.base.now (under c.args.base.now c.args.settled.now) c.loop-k.named.items _ c.loop-k.k c.loop-k.pages.items c.index_mut.result.now c.in_ok-share.field-0
          c.loop-k.invariant.named c.loop-k.invariant.kept there c.index_mut.ensures.value c.in_ok-share.ensures.ok);
      tics = c.share.ensures.tics ∙ c.loop-k.invariant.tics;
      least = omega (arith, c.share.ensures.least, c.loop-k.invariant.least);
      most = omega (arith, c.share.ensures.most, c.loop-k.invariant.most);
    }
