use Rattle.std.proofs.Common.{arith}
use Rattle.std.proofs.lemmas.Bool.{iff_false}
use Rattle.std.proofs.lemmas.List.{take_all}
use Rattle.std.proofs.lemmas.List.Elements.{All-more}
use Rattle.brute_ranges.specs.Tics.{IsSound}
use Rattle.brute_ranges.proofs.Sequences.{some_fault}
use Rattle.brute_ranges.proofs.space.judged.Goals as goal

pub returns-then-not-has_values-clause-fault : goal.returns-then-not-has_values-clause-fault
returns-then-not-has_values-clause-fault c = (
  (c.requires, c.loop-i.invariant),
  some_fault c.args.long c.args.tics.now c.loop-i.i _ c.loop-i-test.true
      (c.is_in_bounds.ensures.0 c.if-not-is_in_bounds.false) (iff_false c.has_values.ensures c.if-not-has_values.true),
)

pub loop-i-preserved : goal.loop-i-preserved
loop-i-preserved c =
    All-more (IsSound c.args.long) c.args.tics.now c.loop-i.i _ c.loop-i-test.true c.loop-i.invariant
    (record { bounds = c.is_in_bounds.ensures.0 c.if-not-is_in_bounds.false; filled = c.has_values.ensures.0 c.if-not-has_values.false })

pub returns-clause-ok : goal.returns-clause-ok
returns-clause-ok c = rw (take_all c.loop-i.i c.args.tics.now (omega arith)) at c.loop-i.invariant
