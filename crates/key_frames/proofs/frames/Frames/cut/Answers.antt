use Rattle.key_frames.proofs.Kept.{frames_cut}
use Rattle.key_frames.proofs.frames.Frames.cut.Goals as goal

pub returns-clause-belong : goal.returns-clause-belong
returns-clause-belong g c = λ game tics other are same inside.
    rw c.truncate.ensures.items
    (frames_cut g.G.Game game tics other c.self.inside.frames.items c.args.t
    (rw c.self.view_is are) same inside)
