use Rattle.std.proofs.Common.{◌<◌, ap, ◌∙◌, subst, length, get_or}
use Rattle.std.proofs.lemmas.List.Elements.{All-get_or}
use Rattle.build_script.specs.Commands.{HoldsTicOf}
use Rattle.build_script.specs.declared.commands.Entry.{Entry}
use Rattle.build_script.specs.declared.commands.Command.TheVariants.{Delete}
use Rattle.dsda_cli.specs.Inside.{stop_of_edit}
use Rattle.dsda_cli.proofs.EditLemmas.{edits_ok, edits_stop, edited_holds}
use Rattle.dsda_cli.proofs.edits.edit_all.Goals as goal

-- any entry, for places that there are not
other : Entry
other = record { line = 0; command = Delete }

pub returns-in-Err-clause-parts : goal.returns-in-Err-clause-parts
returns-in-Err-clause-parts c =
    let refused = rw (c.command.ensures.value other) at c.in-Err.ensures.edits in
    let inside : c.loop-place.place < length c.args.script.now = subst (λ len. c.loop-place.place < len) c.len-place-end.ensures c.loop-place-test.true in
    let stopped = c.stop_of_edit.ensures ∙ ap (λ line. stop_of_edit line c.in-Err.fault) (c.line.ensures.value other) in
    rw stopped (edits_stop c.args.script.now c.loop-place.place c.args.tape c.loop-place.tape c.edit.new.tape other c.in-Err.fault inside c.loop-place.invariant.same refused)

pub loop-place-preserved : goal.loop-place-preserved
loop-place-preserved c =
    let edited = rw (c.command.ensures.value other) at c.in-Ok.ensures.edits in
    let inside : c.loop-place.place < length c.args.script.now = subst (λ len. c.loop-place.place < len) c.len-place-end.ensures c.loop-place-test.true in
    record {
      same = edits_ok c.args.script.now c.loop-place.place c.args.tape c.loop-place.tape c.edit.new.tape other inside c.loop-place.invariant.same edited;
      turns = λ long commands tics.
          edited_holds long (get_or c.args.script.now c.loop-place.place other).command c.loop-place.tape c.edit.new.tape edited
          (All-get_or (λ (entry : Entry). HoldsTicOf long entry.command) c.args.script.now c.loop-place.place other inside commands) (c.loop-place.invariant.turns long commands tics);
    }
