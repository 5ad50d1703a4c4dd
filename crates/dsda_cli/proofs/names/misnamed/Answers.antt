use Rattle.std.proofs.Common.{◌≡◌, ◌<◌, ◌∙◌, ap, sym, subst, length, get_or, not, true, false, Some, option_map}
use Rattle.build_script.specs.declared.commands.Entry.{Entry}
use Rattle.build_script.specs.declared.commands.Command.TheVariants.{Delete}
use Rattle.dsda_cli.specs.Meaning.{has_named}
use Rattle.dsda_cli.proofs.FindLemmas.{found_more, found_at}
use Rattle.dsda_cli.proofs.names.misnamed.Goals as goal

-- any entry, for places that there are not
other : Entry
other = record { line = 0; command = Delete }

pub returns-then-not-has_named : goal.returns-then-not-has_named
returns-then-not-has_named c =
    let entries = c.args.script.now in
    let inside : c.loop-place.place < length entries = subst (λ len. c.loop-place.place < len) c.len-place-end.ensures c.loop-place-test.true in
    let unnamed : not (has_named c.args.level.now (get_or entries c.loop-place.place other).command) ≡ true = ap not (sym (rw (c.command.ensures.value other) at c.has_named.ensures) ∙ c.if-not-has_named.true) in
    ap Some (c.line.ensures.value other)
    ∙ sym (ap (option_map (λ (entry : Entry). entry.line)) (found_at (λ (entry : Entry). not (has_named c.args.level.now entry.command)) entries c.loop-place.place other inside c.loop-place.invariant unnamed))

pub loop-place-preserved : goal.loop-place-preserved
loop-place-preserved c =
    let entries = c.args.script.now in
    let inside : c.loop-place.place < length entries = subst (λ len. c.loop-place.place < len) c.len-place-end.ensures c.loop-place-test.true in
    let named : not (has_named c.args.level.now (get_or entries c.loop-place.place other).command) ≡ false = ap not (sym (rw (c.command.ensures.value other) at c.has_named.ensures) ∙ c.if-not-has_named.false) in
    found_more (λ (entry : Entry). not (has_named c.args.level.now entry.command)) entries c.loop-place.place other inside c.loop-place.invariant named
