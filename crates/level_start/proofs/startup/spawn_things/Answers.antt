use Rattle.std.proofs.Common.{◌<◌, length, rules}
use Rattle.level_start.specs.Start.{first_fault, Blames}
use Rattle.level_start.proofs.Entered.{entered_next, entered_fault}
use Rattle.level_start.proofs.startup.spawn_things.Goals as goal

pub returns-in_err-stood-clause-fault : goal.returns-in_err-stood-clause-fault
returns-in_err-stood-clause-fault c =
    let below : c.loop-i.i < length c.args.level.now.things = search rules in
    let blame : Blames (first_fault c.args.level.now c.args.tables.now c.args.skill) c.in_err-stood.field-0.0 =
    entered_fault c.args.level.now c.args.tables.now c.args.skill c.loop-i.world c.loop-i.stood c.loop-i.i c.in_err-stood.field-0.0 c.loop-i.invariant below c.in_err-stood.ensures.fault in
    search (rules, blame)

pub loop-i-preserved : goal.loop-i-preserved
loop-i-preserved c =
    entered_next c.args.level.now c.args.tables.now c.args.skill c.loop-i.world c.spawn_entry.new.world c.loop-i.stood c.in_ok-stood.stood c.loop-i.i c.loop-i.invariant (search rules) c.in_ok-stood.ensures.ok c.in_ok-stood.ensures.sound c.in_ok-stood.ensures.stood c.in_ok-stood.ensures.begun
