use Rattle.std.proofs.Common.{◌≤◌, subst, IsTrue, refl, arith}
use Rattle.lmp_codec.specs.Turns.{turn_count}
use Rattle.brute_ranges.specs.Tics.{width}
use Rattle.brute_ranges.proofs.Product.{turns_within}
use Rattle.brute_ranges.proofs.ranges.are_turns.Goals as goal

pub returns-then-not-is_within : goal.returns-then-not-is_within
returns-then-not-is_within c =
    let tells = turns_within c.args.long c.args.range c.least_turn.result c.greatest_turn.result c.is_within.result c.least_turn.type_inv c.greatest_turn.type_inv c.least_turn.ensures c.greatest_turn.ensures c.is_within.ensures in
    ((λ never. absurd cc), (λ holds. subst IsTrue c.if-not-is_within.true (tells.1 holds.0)))

pub returns : goal.returns
returns c =
    let tells = turns_within c.args.long c.args.range c.least_turn.result c.greatest_turn.result c.is_within.result c.least_turn.type_inv c.greatest_turn.type_inv c.least_turn.ensures c.greatest_turn.ensures c.is_within.ensures in
    let few : width c.args.range ≤ turn_count c.args.long = omega (arith, c.if-width-from.false, c.from.ensures, c.turn_count.ensures, c.width.ensures.width) in
    ((λ _. (tells.0 c.if-not-is_within.false, few)), (λ _. refl))
