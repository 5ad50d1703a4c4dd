use Rattle.std.proofs.Common.{◌≡◌, Err, ◌+◌, ◌-◌, ℕ, ◌∙◌, rules, arith}
use Rattle.std.specs.List.{range_with_len}
use Rattle.clip_check.proofs.Halts.{moves_on}
use Rattle.mover_run.specs.Runs.{run_thinker_of}
use Rattle.mover_run.proofs.Each.{each_next, each_halts, range_first}
use Rattle.mover_run.proofs.runs.run_stretch.Goals as goal

pub loop-i-preserved : goal.loop-i-preserved
loop-i-preserved c =
    let last : ℕ = c.args.stretch.now.end in
    record {
      left = each_next (run_thinker_of c.args.level.now c.args.tables.now) _ c.loop-i.world c.run_thinker.new.world c.loop-i.i (range_with_len c.loop-i.i (last - c.loop-i.i)) (range_with_len (c.loop-i.i + 1) (last - (c.loop-i.i + 1)))
          c.loop-i.invariant.left (range_first c.loop-i.i last c.loop-i-test.true) c.in_ok-run_thinker.ensures.moves;
      many = c.in_ok-run_thinker.ensures.many ∙ c.loop-i.invariant.many;
      fits = c.in_ok-run_thinker.ensures.fits;
      tics = c.run_thinker.ensures.tics ∙ c.loop-i.invariant.tics;
      pages = omega (arith, c.run_thinker.ensures.pages, c.loop-i.invariant.pages);
    }

pub returns-in_err-run_thinker-clause-moves : goal.returns-in_err-run_thinker-clause-moves
returns-in_err-run_thinker-clause-moves c =
    let last : ℕ = c.args.stretch.now.end in
    let fails : c.from_residual.result ≡ Err c.in_err-run_thinker.field-0.0 = search rules in
    rw fails (moves_on (Unit {0}) (Unit {0}) c.in_err-run_thinker.field-0.0 c.run_thinker.new.world c.run_thinker.new.world _ _
    (each_halts (run_thinker_of c.args.level.now c.args.tables.now) _ c.loop-i.world c.loop-i.i (range_with_len c.loop-i.i (last - c.loop-i.i)) (range_with_len (c.loop-i.i + 1) (last - (c.loop-i.i + 1)))
    c.loop-i.invariant.left (range_first c.loop-i.i last c.loop-i-test.true))
    c.in_err-run_thinker.ensures.moves)
