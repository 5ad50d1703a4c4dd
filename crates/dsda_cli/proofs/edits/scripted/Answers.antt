use Rattle.build_edits.specs.Parts.{all_tics}
use Rattle.dsda_cli.specs.Meaning.{scripted}
use Rattle.dsda_cli.proofs.JudgingLemmas.{stopped, further, mapped}
use Rattle.dsda_cli.proofs.edits.scripted.Goals as goal

pub returns-in_err-commands-clause-tics : goal.returns-in_err-commands-clause-tics
unfolding scripted
returns-in_err-commands-clause-tics c = stopped c.in_err-commands.ensures.commands c.from_residual.ensures.1

pub returns-clause-tics : goal.returns-clause-tics
unfolding scripted
returns-clause-tics c = further c.in_ok-commands.ensures.commands (mapped all_tics (rw (c.new.ensures, c.into_list.ensures) at c.edit_all.ensures.parts))
