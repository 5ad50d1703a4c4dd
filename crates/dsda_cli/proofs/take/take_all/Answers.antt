use Rattle.std.proofs.Common.{IsErrOf}
use Rattle.std.proofs.lemmas.Result.{err_from_is_err_and}
use Rattle.doom_edge.specs.declared.shelf.TakeFault.TheVariants.{Failed}
use Rattle.dsda_cli.proofs.TakeLemmas.{missing_at}
use Rattle.dsda_cli.proofs.take.take_all.Goals as goal

-- The take that failed is the one of an input that isn't held.
pub returns-in_err-take-clause-missing : goal.returns-in_err-take-clause-missing
returns-in_err-take-clause-missing g c = λ failed sure.
    let made = err_from_is_err_and c.from_residual.result c.from_residual.ensures.1 in
    let taken : IsErrOf c.take.result Failed = cc (made.1, made.2) in
    let unheld = c.take.ensures.sure_fault (c.loop-input.invariant.stays_sure sure) taken in
    missing_at (g.S.Shelf.holds c.args.shelf.now) _ _ _ _ _ c.loop-input-test.true c.word.ensures (rw c.loop-input.invariant.holds at unheld)
