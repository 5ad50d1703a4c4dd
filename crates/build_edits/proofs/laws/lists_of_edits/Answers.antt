use Rattle.build_edits.proofs.Sessions.{went_through, shows_replay}
use Rattle.build_edits.proofs.laws.lists_of_edits.Goals as goal

pub returns-clause-game : goal.returns-clause-game
returns-clause-game g c = λ edits old new is. (went_through edits old new is).0

pub returns-clause-tape : goal.returns-clause-tape
returns-clause-tape g c = λ edits old new is. (went_through edits old new is).1

pub returns-clause-world : goal.returns-clause-world
returns-clause-world g c = shows_replay g.G.Game
