use Rattle.brute_run.specs.Search.{all_meeting}
use Rattle.brute_run.proofs.first.first_match.Given as goal

abbrev pub ghost-first_among : goal.ghost-first_among
ghost-first_among g a = all_meeting g.G.Game a.game.now a.walk.kept a.wants.now a.space.now
