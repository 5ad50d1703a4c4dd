use Rattle.std.proofs.Common.{◌≡◌, take, None}
use Rattle.dsda_cli.specs.Meaning.{misnamed}
use Rattle.dsda_cli.proofs.names.misnamed.Given as goal

-- the commands so far name nothing that isn't there
abbrev pub invariant-loop-place : goal.invariant-loop-place
invariant-loop-place l = misnamed l.level (take l.place l.script) ≡ None
