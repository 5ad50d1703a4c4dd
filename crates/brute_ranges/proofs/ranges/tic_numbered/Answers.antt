use Rattle.std.proofs.Common.{pos, negsuc}
use Rattle.brute_ranges.proofs.Product.{few_tics, forward_place, passed_between, tic_found}
use Rattle.brute_ranges.proofs.ranges.tic_numbered.Goals as goal

pub value_at-requires-clause-place : goal.value_at-requires-clause-place
value_at-requires-clause-place c =
    let few = few_tics c.args.long c.args.ranges.now c.requires.sound in
    rw (c.width-using_width.ensures.width, c.width-turn_width.ensures.width, c.width-side_width.ensures.width)
    (forward_place c.args.long c.args.ranges.now c.args.place c.requires.place few.using few.turn few.side)

pub made-requires-clause-forward : goal.made-requires-clause-forward
made-requires-clause-forward c =
    passed_between c.value_at.result (negsuc 126) (pos 127) c.args.ranges.now.forward c.value_at.type_inv c.value_at.ensures.low c.value_at.ensures.high c.requires.sound.bounds.forward

pub made-requires-clause-side : goal.made-requires-clause-side
made-requires-clause-side c =
    passed_between c.value_at-2.result (negsuc 127) (pos 127) c.args.ranges.now.side c.value_at-2.type_inv c.value_at-2.ensures.low c.value_at-2.ensures.high c.requires.sound.bounds.side

pub returns : goal.returns
returns c =
    tic_found c.args.long c.args.ranges.now c.args.place c.width-using_width.result c.width-turn_width.result c.width-side_width.result
    c.value_at.result c.value_at-2.result c.value_at-3.result c.value_at-4.result c.made.result c.requires.sound c.requires.place
    c.width-using_width.ensures.width c.width-turn_width.ensures.width c.width-side_width.ensures.width
    c.value_at.type_inv c.value_at-2.type_inv c.value_at-3.type_inv c.value_at-4.type_inv
    c.value_at.ensures.value c.value_at-2.ensures.value c.value_at-3.ensures.value c.value_at-4.ensures.value c.made.ensures
