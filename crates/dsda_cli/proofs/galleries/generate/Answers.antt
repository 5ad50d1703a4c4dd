use Rattle.std.proofs.Common.{◌++◌, None}
use Rattle.dsda_cli.specs.Meaning.{gallery_line, generated}
use Rattle.dsda_cli.proofs.JudgingLemmas.{memory_takes, mapped_takes, takes_stopped}
use Rattle.dsda_cli.proofs.galleries.generate.Goals as goal

pub returns-in_err-wad : goal.returns-in_err-wad
returns-in_err-wad g c = memory_takes c.from_residual.result _ c.args.steps.now.tics c.args.steps.now.tics c.from_residual.ensures.1

pub returns-in_err-line : goal.returns-in_err-line
returns-in_err-line g c = memory_takes c.from_residual-in_err-line.result _ c.args.steps.now.tics c.args.steps.now.tics c.from_residual-in_err-line.ensures.1

pub returns-in_err-script : goal.returns-in_err-script
returns-in_err-script g c = memory_takes c.from_residual-in_err-script.result _ c.args.steps.now.tics c.args.steps.now.tics c.from_residual-in_err-script.ensures.1

pub returns-in_err-built : goal.returns-in_err-built
unfolding generated
returns-in_err-built g c =
    takes_stopped (rw (c.deref.ensures.value, c.deref-2.ensures.value, c.as_bytes.ensures.value, c.in_ok-script.ensures, c.in_ok-wad.ensures.wad, c.in_ok-wad.ensures.tables, c.in_ok-wad.ensures.demo, c.in_ok-wad.ensures.tics) at c.in_err-built.ensures) c.from_residual-in_err-built.ensures.1

pub returns : goal.returns
unfolding generated
returns g c =
    mapped_takes (λ output. record { report = gallery_line c.args.number ++ output.report; demo = None }) c.in_ok-built.built c.in_ok-product.product c.args.steps.now.tics c.build.new.steps.tics
    (rw (c.deref.ensures.value, c.deref-2.ensures.value, c.as_bytes.ensures.value, c.in_ok-script.ensures, c.in_ok-wad.ensures.wad, c.in_ok-wad.ensures.tables, c.in_ok-wad.ensures.demo, c.in_ok-wad.ensures.tics) at c.in_ok-built.ensures)
    (rw c.in_ok-line.ensures at c.in_ok-product.ensures)
