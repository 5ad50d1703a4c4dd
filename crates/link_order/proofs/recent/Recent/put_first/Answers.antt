use Rattle.std.proofs.Common.{length, length-set, arith, ap, sym, ◌∙◌}
use Rattle.link_order.specs.Links.{is_other}
use Rattle.link_order.proofs.Orders.{put_kept, put_left, part_replaced}
use Rattle.link_order.proofs.recent.Recent.put_first.Goals as goal
use Rattle.link_order.proofs.recent.Recent.put_first.Goals.{then-is_other, else-is_other}

pub loop-linked-preserved : goal.loop-linked-preserved
loop-linked-preserved c =
    let p = is_other c.args.first.thing in
    let entries = c.as_slice-linked-items.result.now in
    elim c.if-is_other.branch [
      | then-is_other w ↦ record {
        long = ap length w.entries-is ∙ length-set c.loop-linked.entries c.loop-linked.len _ ∙ c.loop-linked.invariant.long;
        same = c.loop-linked.invariant.same;
        within = omega arith;
        put = rw (w.entries-is, w.len-is) (
            put_kept p c.args.first c.loop-linked.entries entries c.loop-linked.len c.loop-linked.linked-index _
            c.loop-linked-test.true (omega (arith, ap length c.loop-linked.invariant.same))
            (sym c.is_other.ensures ∙ w.if-is_other.true) c.loop-linked.invariant.put);
      }
      | else-is_other w ↦ record {
        long = ap length w.entries-is ∙ c.loop-linked.invariant.long;
        same = c.loop-linked.invariant.same;
        within = omega arith;
        put = rw (w.entries-is, w.len-is) (
            put_left p c.args.first _ entries c.loop-linked.linked-index _
            c.loop-linked-test.true (sym c.is_other.ensures ∙ w.if-is_other.false) c.loop-linked.invariant.put);
      }
    ]

pub returns-then-begins_with : goal.returns-then-begins_with
returns-then-begins_with c =
    part_replaced c.args.first c.self.inside.entries c.self.inside.len c.args.self.now c.self.view_is (sym c.begins_with.ensures ∙ c.if-begins_with.true) c.requires.once
