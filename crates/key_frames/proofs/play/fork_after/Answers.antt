use Rattle.std.proofs.Common.{arith, ap, sym, ◌∙◌, ℕ}
use Rattle.doom_edge.specs.Counts.{raised, raised-zero, raised_step}
use Rattle.key_frames.proofs.Kept.{after_more}
use Rattle.key_frames.proofs.play.fork_after.Goals as goal

pub playing-init : goal.playing-init
playing-init g c = record {
  played = c.in_ok-forked.ensures.same;
  fitting = rw c.in_ok-forked.ensures.same c.requires;
  tics = c.fork.ensures.tics ∙ sym (raised-zero c.args.steps.now.tics);
  tics_never_fall = omega arith;
  pages_never_fall = c.fork.ensures.pages_never_fall;
}

pub playing-preserved : goal.playing-preserved
playing-preserved g c =
    let kept = c.playing.invariant in
    record {
      played = after_more g.G.Game c.args.game.now c.args.world.now c.playing.forked c.step.new.world
          c.args.tics.now c.playing.tic-index c.tic-item.result
          (omega arith) c.tic-item.is kept.played c.in_ok-step.ensures.after;
      fitting = c.in_ok-step.ensures.fitting;
      tics = c.in_ok-step.ensures.tics
          ∙ ap (λ (n : ℕ). raised n 1) kept.tics
          ∙ raised_step c.args.steps.now.tics c.playing.tic-index;
      tics_never_fall = omega arith;
      pages_never_fall = omega arith;
    }
