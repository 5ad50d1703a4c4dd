use Rattle.build_edits.proofs.Builds.{frames_keep, put_keeps}
use Rattle.build_edits.proofs.build.Build.put.Goals as goal

pub invariant_of-self-2 : goal.invariant_of-self-2
invariant_of-self-2 g c =
    let old = c.self.inside in
    let new = c.put.new.self in
    frames_keep g.G.Game old.game old.tape new old.frames c.cut.new.self
    c.cursor-place.result c.cursor-place.ensures.value c.self.invariant
    (put_keeps c.args.tic old.tape new c.in_ok-put.ensures.edits) c.cut.ensures.belong
