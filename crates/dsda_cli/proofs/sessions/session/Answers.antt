use Rattle.std.proofs.Common.{sym, subst}
use Rattle.lmp_codec.specs.Header.{is_long}
use Rattle.lmp_codec.specs.Tics.{HoldsTurns}
use Rattle.build_script.specs.Script.{HoldsTics}
use Rattle.dsda_cli.specs.Meaning.{Read, session}
use Rattle.dsda_cli.proofs.JudgingLemmas.{stopped_takes, further_takes}
use Rattle.dsda_cli.proofs.sessions.session.Goals as goal

pub returns-in_err-game : goal.returns-in_err-game
unfolding session
returns-in_err-game g c = rw (← c.read.view_is) (stopped_takes c.in_err-game.ensures.game c.from_residual.ensures.1)

pub returns : goal.returns
unfolding session
returns g c = rw (← c.read.view_is) (further_takes c.in_ok-game.ensures.game (rw c.into_list-tics.ensures at c.play.ensures))

pub play-requires-clause-turns : goal.play-requires-clause-turns
play-requires-clause-turns g c = λ lives within.
    rw c.into_list-tics.ensures (subst (λ (read : Read). HoldsTurns (is_long read.demo.header) read.demo.tics) (sym c.read.view_is) c.requires.turns)

pub play-requires-clause-held : goal.play-requires-clause-held
play-requires-clause-held g c = λ lives within.
    subst (λ (read : Read). HoldsTics (is_long read.demo.header) read.entries) (sym c.read.view_is) c.requires.held
