use Rattle.std.proofs.Common.{Bool, ◌+◌, ◌<◌, length, subst, inr, refl, arith}
use Rattle.lmp_codec.specs.Demo.{tic_len}
use Rattle.lmp_codec.proofs.Progress.{demo_here, long_here, cut_at_end, cut_within}
use Rattle.lmp_codec.proofs.read.tics_of.Goals as goal
use Rattle.lmp_codec.proofs.read.tics_of.Goals.{else-loop-at-test, then-loop-at-test+else-text-at+else-len-eq-MOST_TICS+in_default}

pub returns-then-text-at-clause-read : goal.returns-then-text-at-clause-read
returns-then-text-at-clause-read c =
    demo_here c.args.text.now c.args.header.now _ c.loop-at.at c.loop-at.invariant c.requires.valid c.loop-at-test.true c.if-text-at.true

pub returns-then-len-eq-MOST_TICS-clause-fault : goal.returns-then-len-eq-MOST_TICS-clause-fault
returns-then-len-eq-MOST_TICS-clause-fault c =
    inr (long_here c.args.text.now c.args.header.now _ c.loop-at.at c.loop-at.invariant c.requires.valid c.loop-at-test.true c.if-text-at.false (omega arith))

pub returns-clause-fault : goal.returns-clause-fault
returns-clause-fault c =
    inr
    (elim c.loop-at-test.branch [
      | else-loop-at-test w ↦ (refl, cut_at_end c.args.text.now c.args.header.now _ c.loop-at.at c.loop-at.invariant c.requires.valid w.loop-at-test.false)
      | then-loop-at-test+else-text-at+else-len-eq-MOST_TICS+in_default w ↦
          (refl, cut_within c.args.text.now c.args.header.now _ c.loop-at.at c.loop-at.invariant c.requires.valid (λ k. omega (arith, c.type_inv.text k)) w.loop-at-test.true w.if-text-at.false (λ e. w.if-len-eq-MOST_TICS.false (omega arith)) (subst (λ (long : Bool). length c.args.text.now < c.loop-at.at + tic_len long) c.long-long.ensures.value w.in_default.ensures.cut))
    ])
