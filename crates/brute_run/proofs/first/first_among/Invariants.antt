use Rattle.brute_run.proofs.first.first_among.Given as goal

abbrev pub ghost-new : goal.ghost-new
ghost-new g a = g.list
