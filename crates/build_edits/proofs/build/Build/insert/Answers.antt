use Rattle.build_edits.proofs.Builds.{frames_keep, insert_keeps}
use Rattle.build_edits.proofs.build.Build.insert.Goals as goal

pub invariant_of-self-2 : goal.invariant_of-self-2
invariant_of-self-2 g c =
    let old = c.self.inside in
    let new = c.insert.new.self in
    frames_keep g.G.Game old.game old.tape new old.frames c.cut.new.self
    c.cursor-place.result c.cursor-place.ensures.value c.self.invariant
    (insert_keeps c.args.tic old.tape new c.in_ok-insert.ensures.edits) c.cut.ensures.belong
