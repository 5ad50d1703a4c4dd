use Rattle.std.proofs.Common.{◌<◌, ap, sym, subst, ◌∙◌, arith, length, get_or, Ok, Err}
use Rattle.std.proofs.lemmas.List.{take_all}
use Rattle.std.proofs.lemmas.List.Elements.{All-get_or}
use Rattle.build_script.specs.declared.commands.Entry.{Entry}
use Rattle.build_script.specs.declared.commands.Command.TheVariants.{Delete}
use Rattle.build_script.specs.declared.commands.Command.{Command}
use Rattle.build_session.specs.Searches.{turns_of}
use Rattle.build_session.specs.Session.{play_of, carried, NamesSectors}
use Rattle.build_session.specs.Costs.{spent}
use Rattle.build_session.specs.Runs.{state_in, refused_at, Does}
use Rattle.build_session.proofs.Turns.{script_holds}
use Rattle.build_session.proofs.Running.{came_start, came_next, came_stop, stands, ends}
use Rattle.build_session.proofs.session.Session.carry_out.Goals as goal

-- any entry, for places that there are not
other : Entry
other = record { line = 0; command = Delete }

pub loop-place-init : goal.loop-place-init
loop-place-init g c =
    came_start (play_of g.G.Game g.G.Details.ground_of g.G.Details.vitals_of (turns_of c.args.searcher.now g.G.Game)) c.args.self.now.build.game c.args.self.now c.args.steps.now.tics

pub carry-requires-clause-there : goal.carry-requires-clause-there
carry-requires-clause-there g c =
    let inside : c.loop-place.place < length c.args.script.now = subst (λ len. c.loop-place.place < len) c.len-place-end.ensures c.loop-place-test.true in
    let has = g.G.Details.has_sector in
    let names = All-get_or (λ (entry : Entry). NamesSectors (has c.args.self.now.build.game) entry.command) c.args.script.now c.loop-place.place other inside c.requires.there in
    rw (c.command.ensures.value other) (λ lives within. subst (λ game. NamesSectors (has game) (get_or c.args.script.now c.loop-place.place other).command) (sym c.loop-place.invariant.spends.game) names)

pub returns-in-Err-clause-run : goal.returns-in-Err-clause-run
returns-in-Err-clause-run g c =
    let inside : c.loop-place.place < length c.args.script.now = subst (λ len. c.loop-place.place < len) c.len-place-end.ensures c.loop-place-test.true in
    let play = play_of g.G.Game g.G.Details.ground_of g.G.Details.vitals_of (turns_of c.args.searcher.now g.G.Game) in
    let game = c.args.self.now.build.game in
    let does : Does (Err c.in-Err.fault) (carried play game (get_or c.args.script.now c.loop-place.place other).command (state_in c.loop-place.self))
    (spent play game (get_or c.args.script.now c.loop-place.place other).command (state_in c.loop-place.self) c.loop-place.self.build.reach) c.loop-place.self c.carry.new.self c.loop-place.steps.tics c.carry.new.steps.tics =
    subst (λ (command : Command). Does (Err c.in-Err.fault) (carried play game command (state_in c.loop-place.self)) (spent play game command (state_in c.loop-place.self) c.loop-place.self.build.reach) c.loop-place.self c.carry.new.self c.loop-place.steps.tics c.carry.new.steps.tics)
    (c.command.ensures.value other)
    (subst (λ game. Does (Err c.in-Err.fault) (carried play game c.command.result.now (state_in c.loop-place.self)) (spent play game c.command.result.now (state_in c.loop-place.self) c.loop-place.self.build.reach) c.loop-place.self c.carry.new.self c.loop-place.steps.tics c.carry.new.steps.tics)
    c.loop-place.invariant.spends.game c.in-Err.ensures) in
    let stopped = c.refused_at.ensures ∙ ap (λ line. refused_at line c.in-Err.fault) (c.line.ensures.value other) in
    rw stopped
    (came_stop play game c.args.script.now c.loop-place.place other c.args.self.now c.loop-place.self c.carry.new.self c.args.steps.now.tics c.loop-place.steps.tics c.carry.new.steps.tics c.in-Err.fault inside
    c.loop-place.invariant does)

pub returns-in-Err-clause-stands : goal.returns-in-Err-clause-stands
returns-in-Err-clause-stands g c =
    let inside : c.loop-place.place < length c.args.script.now = subst (λ len. c.loop-place.place < len) c.len-place-end.ensures c.loop-place-test.true in
    let play = play_of g.G.Game g.G.Details.ground_of g.G.Details.vitals_of (turns_of c.args.searcher.now g.G.Game) in
    let game = c.args.self.now.build.game in
    let does : Does (Err c.in-Err.fault) (carried play game (get_or c.args.script.now c.loop-place.place other).command (state_in c.loop-place.self))
    (spent play game (get_or c.args.script.now c.loop-place.place other).command (state_in c.loop-place.self) c.loop-place.self.build.reach) c.loop-place.self c.carry.new.self c.loop-place.steps.tics c.carry.new.steps.tics =
    subst (λ (command : Command). Does (Err c.in-Err.fault) (carried play game command (state_in c.loop-place.self)) (spent play game command (state_in c.loop-place.self) c.loop-place.self.build.reach) c.loop-place.self c.carry.new.self c.loop-place.steps.tics c.carry.new.steps.tics)
    (c.command.ensures.value other)
    (subst (λ game. Does (Err c.in-Err.fault) (carried play game c.command.result.now (state_in c.loop-place.self)) (spent play game c.command.result.now (state_in c.loop-place.self) c.loop-place.self.build.reach) c.loop-place.self c.carry.new.self c.loop-place.steps.tics c.carry.new.steps.tics)
    c.loop-place.invariant.spends.game c.in-Err.ensures) in
    let stopped = c.refused_at.ensures ∙ ap (λ line. refused_at line c.in-Err.fault) (c.line.ensures.value other) in
    rw stopped
    (stands play game c.args.script.now c.loop-place.place other c.args.self.now c.loop-place.self c.carry.new.self c.args.steps.now.tics c.loop-place.steps.tics c.carry.new.steps.tics c.in-Err.fault inside
    c.loop-place.invariant does)

pub returns-in-Err-clause-carried : goal.returns-in-Err-clause-carried
returns-in-Err-clause-carried g c =
    let play = play_of g.G.Game g.G.Details.ground_of g.G.Details.vitals_of (turns_of c.args.searcher.now g.G.Game) in
    ends play c.args.self.now.build.game c.args.script.now c.args.self.now c.carry.new.self (Err c.refused_at.result) c.args.steps.now.tics c.carry.new.steps.tics (returns-in-Err-clause-run g c)

pub loop-place-preserved : goal.loop-place-preserved
loop-place-preserved g c =
    let inside : c.loop-place.place < length c.args.script.now = subst (λ len. c.loop-place.place < len) c.len-place-end.ensures c.loop-place-test.true in
    let play = play_of g.G.Game g.G.Details.ground_of g.G.Details.vitals_of (turns_of c.args.searcher.now g.G.Game) in
    let game = c.args.self.now.build.game in
    let does : Does (Ok tt) (carried play game (get_or c.args.script.now c.loop-place.place other).command (state_in c.loop-place.self))
    (spent play game (get_or c.args.script.now c.loop-place.place other).command (state_in c.loop-place.self) c.loop-place.self.build.reach) c.loop-place.self c.carry.new.self c.loop-place.steps.tics c.carry.new.steps.tics =
    subst (λ (command : Command). Does (Ok tt) (carried play game command (state_in c.loop-place.self)) (spent play game command (state_in c.loop-place.self) c.loop-place.self.build.reach) c.loop-place.self c.carry.new.self c.loop-place.steps.tics c.carry.new.steps.tics)
    (c.command.ensures.value other)
    (subst (λ game. Does (Ok tt) (carried play game c.command.result.now (state_in c.loop-place.self)) (spent play game c.command.result.now (state_in c.loop-place.self) c.loop-place.self.build.reach) c.loop-place.self c.carry.new.self c.loop-place.steps.tics c.carry.new.steps.tics)
    c.loop-place.invariant.spends.game c.in-Ok.ensures) in
    came_next play c.args.self.now.build.game c.args.script.now c.loop-place.place other c.args.self.now c.loop-place.self c.carry.new.self c.args.steps.now.tics c.loop-place.steps.tics c.carry.new.steps.tics inside
    c.loop-place.invariant does

pub returns-clause-run : goal.returns-clause-run
returns-clause-run g c =
    let came = c.loop-place.invariant in
    (came.run, rw (take_all c.loop-place.place c.args.script.now (omega (arith, c.len-place-end.ensures))) at came.is, came.state, came.spends)

pub returns-clause-carried : goal.returns-clause-carried
returns-clause-carried g c =
    let play = play_of g.G.Game g.G.Details.ground_of g.G.Details.vitals_of (turns_of c.args.searcher.now g.G.Game) in
    ends play c.args.self.now.build.game c.args.script.now c.args.self.now c.loop-place.self (Ok tt) c.args.steps.now.tics c.loop-place.steps.tics (returns-clause-run g c)

pub returns-clause-turns : goal.returns-clause-turns
returns-clause-turns g c long tics held =
    let play = play_of g.G.Game g.G.Details.ground_of g.G.Details.vitals_of (turns_of c.args.searcher.now g.G.Game) in
    script_holds play c.args.self.now.build.game long c.args.script.now (state_in c.args.self.now) (state_in c.loop-place.self) (returns-clause-carried g c) tics held
