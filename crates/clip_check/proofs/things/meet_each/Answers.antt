use Rattle.std.proofs.Common.{◌+◌, Bool, List, ℕ, drop, get_or, ap, sym, subst, ◌∙◌, arith}
use Rattle.clip_check.proofs.Encounters.{Met, met_next, met_last, drop_first}
use Rattle.clip_check.proofs.things.meet_each.Goals as goal

pub returns-then-branch-clause-met : goal.returns-then-branch-clause-met
returns-then-branch-clause-met c =
    let near = c.args.near.now in
    let i = c.loop-other.other-index in
    let Left : List ℕ → Type 0 = λ left. Met c.args.level.now c.args.tables.now c.args.trial.now near c.args.world.now c.loop-other.world left in
    let left = subst Left (drop_first near i c.loop-other-test.true) c.loop-other.invariant.met in
    met_last c.args.level.now c.args.tables.now c.args.trial.now near c.args.world.now c.loop-other.world c.meet.new.world (get_or near i 0) (drop (i + 1) near) left
    (ap (λ (blocks : Bool). (c.meet.new.world, blocks)) (sym c.if-branch.true) ∙ c.in_ok-meet.ensures.met)

pub loop-other-preserved : goal.loop-other-preserved
loop-other-preserved c =
    let near = c.args.near.now in
    let i = c.loop-other.other-index in
    let Left : List ℕ → Type 0 = λ left. Met c.args.level.now c.args.tables.now c.args.trial.now near c.args.world.now c.loop-other.world left in
    let left = subst Left (drop_first near i c.loop-other-test.true) c.loop-other.invariant.met in
    record {
      met = met_next c.args.level.now c.args.tables.now c.args.trial.now near c.args.world.now c.loop-other.world c.meet.new.world (get_or near i 0) (drop (i + 1) near) left
          (ap (λ (blocks : Bool). (c.meet.new.world, blocks)) (sym c.if-branch.false) ∙ c.in_ok-meet.ensures.met) c.in_ok-meet.ensures.aside c.in_ok-meet.ensures.fits;
      tics = c.meet.ensures.tics ∙ c.loop-other.invariant.tics;
      pages = omega (arith, c.meet.ensures.pages, c.loop-other.invariant.pages);
    }
