use Rattle.std.proofs.Common.{ap, subst, sym, All}
use Rattle.lmp_codec.specs.Header.{is_long}
use Rattle.lmp_codec.specs.Tics.{HoldsTurns}
use Rattle.build_edits.specs.Parts.{all_tics}
use Rattle.play_step.specs.Doom.{Setup}
use Rattle.play_step.specs.Rules.{doom_rules, HasSector}
use Rattle.build_script.specs.declared.commands.Entry.{Entry}
use Rattle.build_session.specs.Seen.{Seen}
use Rattle.build_session.specs.Session.{NamesSectors}
use Rattle.build_session.specs.Searches.{turns_of}
use Rattle.dsda_cli.specs.Meaning.{play_with}
use Rattle.dsda_cli.proofs.JudgingLemmas.{memory_takes}
use Rattle.dsda_cli.proofs.PlayLemmas.{play_stops, play_gives}
use Rattle.dsda_cli.proofs.sessions.play.Goals as goal

pub returns-in_err-session : goal.returns-in_err-session
returns-in_err-session g c = memory_takes c.from_residual.result _ c.args.steps.now.tics c.args.steps.now.tics c.from_residual.ensures.1

pub carry_out-requires-clause-there : goal.carry_out-requires-clause-there
carry_out-requires-clause-there g c = λ lives within.
    subst (λ (seen : Seen Setup). All (λ (entry : Entry). NamesSectors (HasSector seen.build.game) entry.command) c.args.script.now) (sym c.in_ok-session.ensures.begun) c.requires.there

pub returns-in_err-carry_out : goal.returns-in_err-carry_out
returns-in_err-carry_out g c =
    play_stops (play_with (turns_of c.args.searcher.now doom_rules)) c.args.game c.args.tics.items c.args.script.now c.from_residual-in_err-carry_out.result c.in_err-carry_out.field-0.0 c.carry_out.new.self c.args.steps.now.tics c.carry_out.new.steps.tics
    (rw c.in_ok-session.ensures.begun at c.in_err-carry_out.ensures.carried) c.from_residual-in_err-carry_out.ensures.1

pub returns : goal.returns
returns g c =
    play_gives (play_with (turns_of c.args.searcher.now doom_rules)) c.args.game c.args.tics.items c.args.script.now c.args.header.now c.finish.result _ c.carry_out.new.self c.args.steps.now.tics c.carry_out.new.steps.tics
    c.requires.header (rw c.in_ok-session.ensures.begun at c.in_ok-carry_out.ensures.carried) (rw c.in_ok-session.ensures.begun at c.in_ok-carry_out.ensures.run) c.finish.ensures

pub finish-requires : goal.finish-requires
finish-requires g c = record {
  turns = c.in_ok-carry_out.ensures.turns (is_long c.args.header.now) c.requires.held
      (subst (λ (seen : Seen Setup). HoldsTurns (is_long c.args.header.now) (all_tics seen.build.tape)) (sym c.in_ok-session.ensures.begun) c.requires.turns);
}
