use Rattle.std.proofs.Common.{arith, ap, length}
use Rattle.std.proofs.lemmas.Result.{on_ok_weaker}
use Rattle.key_frames.specs.Frames.{reach}
use Rattle.key_frames.proofs.Kept.{raised_on, raised_near}
use Rattle.key_frames.proofs.frames.Frames.world_at.Goals as goal

pub returns-clause-tics : goal.returns-clause-tics
returns-clause-tics g c =
    let opened = c.requires.belong.1.opened in
    let kept = ap length c.self.view_is in
    on_ok_weaker c.world_from.result
    (λ is. raised_on c.args.steps.now.tics c.extend.new.steps.tics c.world_from.new.steps.tics _ _ _
    c.in_ok-extend.ensures.tics is (omega arith))
    c.world_from.ensures.tics

pub returns-clause-near : goal.returns-clause-near
returns-clause-near g c =
    on_ok_weaker c.world_from.result
    (λ is near. raised_near c.args.steps.now.tics c.world_from.new.steps.tics (reach c.args.self.now) c.args.t is near)
    (returns-clause-tics g c)
