use Rattle.std.proofs.Common.{◌≡◌, Err, ◌≤◌, ℕ, length, refl, ◌∙◌, rules, arith}
use Rattle.cow_world.specs.Flat.{parts}
use Rattle.clip_check.proofs.Halts.{moves_on}
use Rattle.mover_run.specs.Runs.{run_thinker_of}
use Rattle.mover_run.proofs.Each.{stretch_next, stretch_halts}
use Rattle.mover_run.proofs.Running.{runs_first, runs_idle}
use Rattle.mover_run.proofs.runs.run_all.Goals as goal

pub loop-from-init : goal.loop-from-init
loop-from-init c = record {
  left = runs_first c.args.level.now c.args.tables.now c.args.world.now;
  many = refl;
  within = omega arith;
  fits = c.requires.fits;
  tics = refl;
  pages = omega arith;
}

pub loop-from-preserved : goal.loop-from-preserved
loop-from-preserved c =
    let count : ℕ = length (parts c.args.world.now).thinkers in
    let live = c.stretch_from-live in
    let within : live.result.end ≤ count = omega (arith, live.ensures.there, c.loop-from.invariant.many) in
    record {
      left = stretch_next (run_thinker_of c.args.level.now c.args.tables.now) _ c.loop-from.world c.run_stretch.new.world c.loop-from.from count live.result
          live.ensures.from live.ensures.order within
          (λ i above below. runs_idle c.args.level.now c.args.tables.now c.loop-from.world i (live.ensures.ended i above below))
          c.loop-from.invariant.left c.in_ok-run_stretch.ensures.moves;
      many = c.in_ok-run_stretch.ensures.many ∙ c.loop-from.invariant.many;
      within = within;
      fits = c.in_ok-run_stretch.ensures.fits;
      tics = c.run_stretch.ensures.tics ∙ c.loop-from.invariant.tics;
      pages = omega (arith, c.run_stretch.ensures.pages, c.loop-from.invariant.pages);
    }

pub returns-in_err-run_stretch-clause-moves : goal.returns-in_err-run_stretch-clause-moves
returns-in_err-run_stretch-clause-moves c =
    let count : ℕ = length (parts c.args.world.now).thinkers in
    let live = c.stretch_from-live in
    let within : live.result.end ≤ count = omega (arith, live.ensures.there, c.loop-from.invariant.many) in
    let fails : c.from_residual.result ≡ Err c.in_err-run_stretch.field-0.0 = search rules in
    rw fails (moves_on (Unit {0}) (Unit {0}) c.in_err-run_stretch.field-0.0 c.run_stretch.new.world c.run_stretch.new.world _ _
    (stretch_halts (run_thinker_of c.args.level.now c.args.tables.now) _ c.loop-from.world c.loop-from.from count live.result
    live.ensures.from live.ensures.order within
    (λ i above below. runs_idle c.args.level.now c.args.tables.now c.loop-from.world i (live.ensures.ended i above below))
    c.loop-from.invariant.left)
    c.in_err-run_stretch.ensures.moves)
