use Rattle.std.proofs.Common.{◌≡◌, ◌∙◌, sym, None, Some, Option, option_map, refl}
use Rattle.build_script.specs.declared.commands.Entry.{Entry}
use Rattle.dsda_cli.specs.Meaning.{misnamed}
use Rattle.dsda_cli.proofs.PlayLemmas.{all_there}
use Rattle.dsda_cli.proofs.names.find_names.Goals as goal

none_of : (found : Option Entry) → option_map (λ (entry : Entry). entry.line) found ≡ None → found ≡ None
none_of None is = refl
none_of (Some entry) is = absurd cc

pub returns-in-None-clause-there : goal.returns-in-None-clause-there
returns-in-None-clause-there c =
    all_there c.args.level.now c.args.script.now (none_of (misnamed c.args.level.now c.args.script.now) (sym c.misnamed.ensures ∙ c.in-None.is))
