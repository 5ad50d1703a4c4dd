use Rattle.std.proofs.Common.{◌∙◌, arith}
use Rattle.page_store.specs.Over.{seen}
use Rattle.cow_world.proofs.KeptPlaces.{running_more}
use Rattle.cow_world.proofs.kept_thinkers.KeptThinkers.running.Goals as goal

pub loop-k-preserved : goal.loop-k-preserved
loop-k-preserved c =
    let kept = seen c.args.base.now c.args.self.now.kept in
    record {
      over = c.push_running.ensures.over;
      running = running_more kept _ _ c.loop-k.k c.get.result (omega (arith, c.loop-k-test.true)) c.get.ensures c.loop-k.invariant.running c.in_ok-push_running.ensures.ok;
      tics = c.push_running.ensures.tics ∙ c.loop-k.invariant.tics;
      least = omega (arith, c.push_running.ensures.least, c.loop-k.invariant.least);
      most = omega (arith, c.push_running.ensures.most, c.loop-k.invariant.most);
    }
