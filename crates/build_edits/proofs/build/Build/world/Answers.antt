use Rattle.std.proofs.Common.{◌≡◌, ◌++◌, List, ap, sym, subst, ◌∙◌, drop}
use Rattle.lmp_codec.specs.declared.input.Tic.{Tic}
use Rattle.key_frames.specs.Frames.{AreFrames}
use Rattle.build_edits.specs.Parts.{all_tics, parts_at}
use Rattle.build_edits.proofs.Builds.{front_and_rest}
use Rattle.build_edits.proofs.build.Build.world.Goals as goal

pub world_at-requires-clause-belong : goal.world_at-requires-clause-belong
world_at-requires-clause-belong g c =
    let inside = c.self-inside.inside in
    let cursor = inside.0.1.0.cursor in
    let kept = c.gather.new.self in
    let rest : List Tic = drop kept.front kept.tics in
    let all = subst (λ b. AreFrames g.G.Game b.game (all_tics b.tape) b.frames) (sym c.self-inside.view_is) c.self.invariant in
    let same : c.front-tics.result.now ++ rest ≡ all_tics (parts_at inside.0.1.0.tics.tics cursor) =
    front_and_rest c.front-tics.result.now kept.tics kept.front cursor c.front-tics.ensures.front
    ∙ ap (λ (tics : List Tic). all_tics (parts_at tics cursor)) c.gather.ensures.same in
    (rest, subst (λ (tics : List Tic). AreFrames g.G.Game inside.0.0 tics inside.0.1.1.0) (sym same) all)

pub invariant_of-self-2 : goal.invariant_of-self-2
invariant_of-self-2 g c =
    let inside = c.self-inside.inside in
    let cursor = inside.0.1.0.cursor in
    let kept = c.gather.new.self in
    let rest : List Tic = drop kept.front kept.tics in
    let all = subst (λ b. AreFrames g.G.Game b.game (all_tics b.tape) b.frames) (sym c.self-inside.view_is) c.self.invariant in
    let parts : c.front-tics.result.now ++ rest ≡ all_tics (parts_at kept.tics cursor) =
    front_and_rest c.front-tics.result.now kept.tics kept.front cursor c.front-tics.ensures.front in
    let same : c.front-tics.result.now ++ rest ≡ all_tics (parts_at inside.0.1.0.tics.tics cursor) =
    parts ∙ ap (λ (tics : List Tic). all_tics (parts_at tics cursor)) c.gather.ensures.same in
    subst (λ (tics : List Tic). AreFrames g.G.Game inside.0.0 tics c.world_at.new.self) parts
    (c.world_at.ensures.belong rest
    (subst (λ (tics : List Tic). AreFrames g.G.Game inside.0.0 tics inside.0.1.1.0) (sym same) all))
