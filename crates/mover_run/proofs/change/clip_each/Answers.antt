use Rattle.std.proofs.Common.{◌+◌, drop, get_or, ◌∙◌, arith}
use Rattle.clip_check.proofs.Asides.{aside_two}
use Rattle.mover_run.specs.Planes.{clipped_one}
use Rattle.mover_run.proofs.Each.{each_next, drop_first}
use Rattle.mover_run.proofs.change.clip_each.Goals as goal

pub loop-thing-preserved : goal.loop-thing-preserved
loop-thing-preserved c =
    let near = c.args.near.now in
    let i = c.loop-thing.thing-index in
    record {
      left = each_next (clipped_one c.args.level.now c.args.tables.now) _ (c.loop-thing.world, c.loop-thing.stuck) (c.clip_one.new.world, c.in_ok-stuck.stuck) (get_or near i 0) (drop i near) (drop (i + 1) near)
          c.loop-thing.invariant.left (drop_first near i c.loop-thing-test.true) c.in_ok-stuck.ensures.plays;
      fits = c.in_ok-stuck.ensures.fits;
      aside = aside_two _ _ _ c.loop-thing.invariant.aside c.in_ok-stuck.ensures.aside;
      tics = c.clip_one.ensures.tics ∙ c.loop-thing.invariant.tics;
      pages = omega (arith, c.clip_one.ensures.pages, c.loop-thing.invariant.pages);
    }
