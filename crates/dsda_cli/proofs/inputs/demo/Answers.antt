use Rattle.std.proofs.lemmas.Result.{err_from_is_err_and}
use Rattle.dsda_cli.proofs.DemoLemmas.{read_stops}
use Rattle.dsda_cli.proofs.inputs.demo.Goals as goal

pub returns-in_err-read_demo-clause-read : goal.returns-in_err-read_demo-clause-read
returns-in_err-read_demo-clause-read c =
    let made = err_from_is_err_and c.from_residual.result c.from_residual.ensures.1 in
    rw made.1 (read_stops c.args.text.now c.in_err-read_demo.field-0.0 made.0 made.2 c.in_err-read_demo.ensures.fault)

pub returns-clause-read : goal.returns-clause-read
returns-clause-read c = record { right = c.in_ok-read_demo.ensures.read }
