use Rattle.std.proofs.Common.{take}
use Rattle.build_session.specs.Searches.{turns_of}
use Rattle.build_session.specs.Session.{play_of}
use Rattle.build_session.proofs.Running.{Came}
use Rattle.build_session.proofs.session.Session.carry_out.Given as goal

-- the commands so far came to this session
abbrev pub invariant-loop-place : goal.invariant-loop-place
invariant-loop-place g l =
    Came (play_of g.G.Game g.G.Details.ground_of g.G.Details.vitals_of (turns_of l.searcher g.G.Game)) l.fn.self.build.game (take l.place l.script) l.fn.self l.self l.fn.steps.tics l.steps.tics
