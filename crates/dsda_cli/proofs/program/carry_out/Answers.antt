use Rattle.std.proofs.Common.{inl, map, refl, ap, ◌∙◌, arith, Err}
use Rattle.dsda_cli.specs.Commands.{inputs_of}
use Rattle.dsda_cli.specs.Ending.{seen}
use Rattle.dsda_cli.proofs.TakeLemmas.{told_lists, missing_told}
use Rattle.dsda_cli.proofs.EndLemmas.{OnlyTook, judged_ends, take_fault_stops}
use Rattle.dsda_cli.proofs.program.carry_out.Goals as goal

-- What was taken is judged, and the run ends as the judgement does.
pub returns-in-Ok-clause-ends : goal.returns-in-Ok-clause-ends
returns-in-Ok-clause-ends g c =
    let before = seen g.S.Shelf g.N.Sink c.args.shelf.now c.args.note.now in
    let mid = seen g.S.Shelf g.N.Sink c.take_all-taken.new.shelf c.args.note.now in
    let after = seen g.S.Shelf g.N.Sink c.conclude.new.shelf c.conclude.new.note in
    let taken = c.take_all-taken.ensures in
    let took : OnlyTook before mid = record { files = taken.holds; takes = taken.takes; puts = taken.puts; text = refl; pushes = refl } in
    let texts = map (λ text. text.items) c.in-Ok.texts.items in
    let told = told_lists (g.S.Shelf.holds c.args.shelf.now) c.args.words.now (inputs_of c.args.command) _ c.in-Ok.texts.items c.inputs_of.ensures c.in-Ok.ensures.told in
    let ended = rw c.out_name.ensures at c.conclude.ensures.ends in
    let later = c.conclude.ensures.later in
    record {
      ending = judged_ends (λ sure. (taken.stays_sure sure.0, sure.1)) c.args.words.now c.args.command texts c.judge.result before mid after c.args.steps.now.tics c.judge.new.steps.tics c.conclude.result c.requires.asked told took c.judge.ensures ended;
      later = record { takes = omega (arith, taken.takes, later.takes); puts = omega (arith, taken.puts, later.puts); pushes = omega (arith, later.pushes) };
    }

-- A take that fails, or finds no memory, ends the run.
pub returns-in-Err-clause-ends : goal.returns-in-Err-clause-ends
returns-in-Err-clause-ends g c =
    let before = seen g.S.Shelf g.N.Sink c.args.shelf.now c.args.note.now in
    let after = seen g.S.Shelf g.N.Sink c.take_all-taken.new.shelf c.args.note.now in
    let taken = c.take_all-taken.ensures in
    let took : OnlyTook before after = record { files = taken.holds; takes = taken.takes; puts = taken.puts; text = refl; pushes = refl } in
    record {
      ending = rw c.status_of_take.ensures (inl (take_fault_stops c.args.words.now c.args.command before after c.in-Err.fault c.requires.asked took (λ failed. taken.cause (c.in-Err.is ∙ ap Err failed)) (λ failed sure. missing_told (g.S.Shelf.holds c.args.shelf.now) c.args.words.now (inputs_of c.args.command) _ c.inputs_of.ensures (taken.missing (c.in-Err.is ∙ ap Err failed) sure.0))));
      later = record { takes = taken.takes; puts = omega (arith, taken.puts); pushes = omega arith };
    }
