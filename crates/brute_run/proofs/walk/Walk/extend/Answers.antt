use Rattle.std.proofs.Common.{rules, ◌≡◌, length, Some, slice_get, refl, sym, ◌∙◌, ap, subst, arith}
use Rattle.brute_ranges.specs.Space.{sequence_at}
use Rattle.std.proofs.lemmas.List.{length_push}
use Rattle.brute_run.specs.Walks.{Walked, Belongs, top_world}
use Rattle.brute_run.proofs.Along.{belongs_push, steps_none, steps_more}
use Rattle.brute_run.proofs.walk.Walk.extend.Goals as goal

pub playing-init : goal.playing-init
playing-init g c =
    let same = c.count_try.ensures.same in
    let place : length c.count_try.new.self.worlds ≡ c.len-played.result = search rules in
    record {
      belongs = subst (λ (v : Walked _). Belongs g.G.Game c.args.game.now c.args.wants.now c.args.space.now v) (sym same) c.requires;
      kept = ap (λ (v : Walked _). v.kept) same;
      last = ap (λ (v : Walked _). v.last) same;
      place = place;
      tics = c.count_try.ensures.tics ∙ steps_none c.args.steps.now.tics c.len-played.result (length c.args.self.now.worlds) (sym place ∙ ap (λ (v : Walked _). length v.worlds) same);
      tics_never_fall = omega (arith, c.count_try.ensures.tics);
      pages_never_fall = omega (arith, c.count_try.ensures.pages_never_fall);
    }

pub playing-preserved : goal.playing-preserved
playing-preserved g c =
    let kept = c.playing.invariant in
    let lines = c.in_ok-play.ensures.lines in
    let at : slice_get (sequence_at c.args.space.now c.playing.self.last) (length c.playing.self.worlds) ≡ Some c.tic_at-tic.result =
    rw kept.place (subst (λ (v : Walked _). slice_get (sequence_at c.args.space.now v.last) c.playing.place ≡ Some c.tic_at-tic.result) c.self-in-playing.view_is c.tic_at-tic.ensures.tic) in
    let played : length c.count_try.new.self.worlds ≡ c.len-played.result = search rules in
    let from : length c.args.self.now.worlds ≡ c.len-played.result = ap (λ (v : Walked _). length v.worlds) (sym c.count_try.ensures.same) ∙ played in
    record {
      belongs = belongs_push g.G.Game c.args.game.now c.args.wants.now c.args.space.now c.playing.self c.play.new.self c.tic_at-tic.result _ lines.0
          kept.belongs at (omega (arith, c.depth-depth.ensures.depth, c.depth-depth.ensures.each c.playing.self.last kept.belongs.last)) refl c.in_ok-play.ensures.worlds.1 lines.2 c.in_ok-play.ensures.worlds.0 lines.1 c.play.ensures.kept c.play.ensures.last;
      kept = c.play.ensures.kept ∙ kept.kept;
      last = c.play.ensures.last ∙ kept.last;
      place = omega (arith, ap length c.in_ok-play.ensures.worlds.0, length_push c.playing.self.worlds (g.G.Game.after c.args.game.now (top_world c.playing.self.kept c.playing.self.worlds) c.tic_at-tic.result));
      tics = steps_more c.args.steps.now.tics c.playing.steps.tics c.play.new.steps.tics c.playing.place (length c.args.self.now.worlds) (omega (arith, c.playing.auto.place)) kept.tics c.in_ok-play.ensures.tics;
      tics_never_fall = omega (arith, c.play.ensures.tics_never_fall);
      pages_never_fall = omega (arith, c.play.ensures.pages_never_fall);
    }
