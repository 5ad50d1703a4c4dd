use Rattle.std.proofs.Common.{rules, ◌∙◌, sym, ap, tests}
use Rattle.std.specs.Iterator.Adapters.{zip_first, zip_second}
use Rattle.std.proofs.lemmas.Iterator.{YieldsList-from_slice, YieldsList-from_zip}
use Rattle.std.proofs.lemmas.Iterator.Search.{find_from_yields_List}
use Rattle.dsda_cli.proofs.TextLemmas.{is_above, too_large-map, vector_word}
use Rattle.dsda_cli.proofs.work.too_large.Goals as goal

pub returns-in_err-input : goal.returns-in_err-input
returns-in_err-input c =
    let found = find_from_yields_List is_above c.find.new.self _ c.find.result c.find.ensures.ran (YieldsList-from_zip (YieldsList-from_slice {s = zip_first c.zip.result} c.args.inputs.now cc) (YieldsList-from_slice {s = zip_second c.zip.result} c.args.texts.now cc)) (λ x b q k. search (rules, tests)) in
    let given = rw c.in_err-input.was at (ap vector_word found) in
    c.from_residual.ensures ∙ given ∙ sym (too_large-map c.args.inputs.now c.args.texts.now)

pub returns : goal.returns
returns c =
    let found = find_from_yields_List is_above c.find.new.self _ c.find.result c.find.ensures.ran (YieldsList-from_zip (YieldsList-from_slice {s = zip_first c.zip.result} c.args.inputs.now cc) (YieldsList-from_slice {s = zip_second c.zip.result} c.args.texts.now cc)) (λ x b q k. search (rules, tests)) in
    let given = rw c.in_ok-input.was at (ap vector_word found) in
    given ∙ sym (too_large-map c.args.inputs.now c.args.texts.now)
