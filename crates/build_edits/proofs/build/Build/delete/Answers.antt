use Rattle.build_edits.proofs.Builds.{frames_keep, delete_keeps}
use Rattle.build_edits.proofs.build.Build.delete.Goals as goal

pub invariant_of-self-2 : goal.invariant_of-self-2
invariant_of-self-2 g c =
    let old = c.self.inside in
    let new = c.delete.new.self in
    frames_keep g.G.Game old.game old.tape new old.frames c.cut.new.self
    c.cursor-place.result c.cursor-place.ensures.value c.self.invariant
    (delete_keeps old.tape new c.in_ok-delete.ensures.edits) c.cut.ensures.belong
