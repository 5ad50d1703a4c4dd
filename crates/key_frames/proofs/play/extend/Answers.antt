use Rattle.std.proofs.Common.{arith, rules, ap, sym, ◌∙◌, ◌≡◌, ◌+◌, ◌-◌, ◌*◌, length, [], ◌∷◌, ◌++◌}
use Rattle.std.proofs.lemmas.List.{length_push, length-append}
use Rattle.doom_edge.specs.Counts.{raised-zero}
use Rattle.key_frames.specs.Frames.{frame_tics}
use Rattle.key_frames.proofs.Kept.{frames_push, replay_further, raised_on}
use Rattle.key_frames.proofs.play.extend.Goals as goal

pub making-init : goal.making-init
making-init g c =
    let len = length c.args.frames.now.items in
    let none : frame_tics * (len - len) ≡ 0 = omega arith in
    record {
      belong = λ rest are. are;
      none_dropped = omega arith;
      none_past = omega arith;
      tics = rw none (sym (raised-zero c.args.steps.now.tics));
      tics_never_fall = omega arith;
      pages_never_fall = omega arith;
    }

pub making-preserved : goal.making-preserved
making-preserved g c =
    let kept = c.making.invariant in
    let rest = c.requires.belong.0 in
    let are = kept.belong rest c.requires.belong.1 in
    let opened = are.opened in
    let here : c.len-len.result ≡ length c.making.frames.items = search rules in
    let items : c.push.new.self.items ≡ c.making.frames.items ++ c.in_ok-frame.frame ∷ [] =
    cc (c.in_ok-push.ensures.items, c.world_from.ensures.kept) in
    let len : length c.push.new.self.items ≡ length c.making.frames.items + 1 =
    ap length items ∙ length_push c.making.frames.items c.in_ok-frame.frame in
    record {
      belong = λ more so. rw items
          (frames_push g.G.Game c.args.game.now (c.args.tics.now ++ more) c.making.frames.items c.in_ok-frame.frame
          c.len-len.result here (kept.belong more so) (omega (arith, length-append c.args.tics.now more))
          (replay_further g.G.Game c.args.game.now c.args.tics.now more (frame_tics * c.len-len.result) c.in_ok-frame.frame (omega arith) c.in_ok-frame.ensures.world));
      none_dropped = omega arith;
      none_past = omega arith;
      tics = raised_on c.args.steps.now.tics c.making.steps.tics c.world_from.new.steps.tics _ _ _
          kept.tics c.in_ok-frame.ensures.tics (omega arith);
      tics_never_fall = omega arith;
      pages_never_fall = omega arith;
    }
