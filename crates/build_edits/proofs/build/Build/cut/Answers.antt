use Rattle.build_edits.proofs.Builds.{frames_keep, cut_keeps}
use Rattle.build_edits.proofs.build.Build.cut.Goals as goal

pub invariant_of-self-2 : goal.invariant_of-self-2
invariant_of-self-2 g c =
    let old = c.self.inside in
    let new = c.cut.new.self in
    frames_keep g.G.Game old.game old.tape new old.frames c.cut-2.new.self
    c.cursor-place.result c.cursor-place.ensures.value c.self.invariant
    (cut_keeps old.tape new c.in_ok-cut.ensures.edits) c.cut-2.ensures.belong
