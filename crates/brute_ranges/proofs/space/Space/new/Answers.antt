use Rattle.std.proofs.Common.{arith}
use Rattle.brute_ranges.proofs.Sequences.{made_space}
use Rattle.brute_ranges.proofs.space.Space.new.Goals as goal

pub invariant_of-result : goal.invariant_of-result
invariant_of-result c = (
  made_space c.args.long c.args.tics.items c.deref.result.now c.deref-2.result.now c.in_ok-wheels.wheels.items c.in_ok-wheels.count
      (omega (arith, c.len-depth.ensures, c.args.tics.ok, c.if-depth-eq0.false), omega (arith, c.len-depth.ensures, c.args.tics.ok, c.if-depth-gt-MAX_DEPTH.false))
      c.in_ok-judged.ensures.ok c.deref.ensures.value c.in_ok-wheels.ensures.ranges c.deref-2.ensures.value c.in_ok-wheels.ensures.wheels c.in_ok-wheels.ensures.few,
  c.in_ok-wheels.ensures.wheels,
)

pub returns-clause-sound : goal.returns-clause-sound
returns-clause-sound c =
    made_space c.args.long c.args.tics.items c.deref.result.now c.deref-2.result.now c.in_ok-wheels.wheels.items c.in_ok-wheels.count
    (omega (arith, c.len-depth.ensures, c.args.tics.ok, c.if-depth-eq0.false), omega (arith, c.len-depth.ensures, c.args.tics.ok, c.if-depth-gt-MAX_DEPTH.false))
    c.in_ok-judged.ensures.ok c.deref.ensures.value c.in_ok-wheels.ensures.ranges c.deref-2.ensures.value c.in_ok-wheels.ensures.wheels c.in_ok-wheels.ensures.few
