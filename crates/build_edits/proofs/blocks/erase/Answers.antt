use Rattle.std.proofs.Common.{◌∙◌}
use Rattle.build_edits.specs.Kept.{joined}
use Rattle.build_edits.proofs.Splices.{less_to_go, length_less}
use Rattle.build_edits.proofs.blocks.erase.Goals as goal

pub erasing-preserved : goal.erasing-preserved
erasing-preserved c =
    let next = joined c.erase_some-left.new.blocks.items in
    let tics = joined c.erasing.blocks.items in
    let call = c.erase_some-left.ensures in (
      less_to_go tics next c.args.from c.erase_some-left.result c.erasing.left call.erased call.most c.erasing.invariant.1 ∙ c.erasing.invariant.0,
      length_less tics next c.args.from c.erase_some-left.result c.erasing.left call.erased call.most c.erasing.invariant.1,
    )
