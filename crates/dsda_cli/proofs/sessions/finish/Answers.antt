use Rattle.dsda_cli.proofs.sessions.finish.Goals as goal

pub write_demo-requires-clause-turns : goal.write_demo-requires-clause-turns
write_demo-requires-clause-turns c = rw (c.deref.ensures.value, c.in_ok-report.ensures.tics) c.requires.turns
