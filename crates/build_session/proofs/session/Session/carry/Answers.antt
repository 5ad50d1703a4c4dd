use Rattle.build_edits.specs.Edits.{seek_outcome, put_outcome, insert_outcome, delete_outcome, cut_outcome, repeat_outcome}
use Rattle.build_edits.specs.Built.{cursor_of}
use Rattle.key_frames.specs.Frames.{frame_below}
use Rattle.build_session.specs.Searches.{turns_of}
use Rattle.build_session.proofs.Doing.{may_edit_does, edit_does, nothing_does}
use Rattle.build_session.proofs.session.Session.carry.Goals as goal

pub returns-in-Seek : goal.returns-in-Seek
returns-in-Seek g c =
    let build = c.self.inside.build in
    rw (c.in-Seek.is, ← c.self.view_is)
    (edit_does (record { build = build; report = c.self.inside.report.items }) c.seek.new.self c.seek.result (seek_outcome c.in-Seek.place build.tape) build.reach c.args.steps.now.tics c.seek.ensures.edits)

pub returns-in-Put : goal.returns-in-Put
returns-in-Put g c =
    let build = c.self-in-Put.inside.build in
    rw (c.in-Put.is, ← c.self-in-Put.view_is)
    (may_edit_does (record { build = build; report = c.self-in-Put.inside.report.items }) c.put.new.self c.put.result (put_outcome c.in-Put.tic build.tape) (frame_below build.reach (cursor_of build)) c.args.steps.now.tics c.put.ensures.edits)

pub returns-in-Insert : goal.returns-in-Insert
returns-in-Insert g c =
    let build = c.self-in-Insert.inside.build in
    rw (c.in-Insert.is, ← c.self-in-Insert.view_is)
    (may_edit_does (record { build = build; report = c.self-in-Insert.inside.report.items }) c.insert.new.self c.insert.result (insert_outcome c.in-Insert.tic build.tape) (frame_below build.reach (cursor_of build)) c.args.steps.now.tics c.insert.ensures.edits)

pub returns-in-Delete : goal.returns-in-Delete
returns-in-Delete g c =
    let build = c.self-in-Delete.inside.build in
    rw (c.in-Delete.is, ← c.self-in-Delete.view_is)
    (edit_does (record { build = build; report = c.self-in-Delete.inside.report.items }) c.delete.new.self c.delete.result (delete_outcome build.tape) (frame_below build.reach (cursor_of build)) c.args.steps.now.tics c.delete.ensures.edits)

pub returns-in-Cut : goal.returns-in-Cut
returns-in-Cut g c =
    let build = c.self-in-Cut.inside.build in
    rw (c.in-Cut.is, ← c.self-in-Cut.view_is)
    (edit_does (record { build = build; report = c.self-in-Cut.inside.report.items }) c.cut.new.self c.cut.result (cut_outcome build.tape) (frame_below build.reach (cursor_of build)) c.args.steps.now.tics c.cut.ensures.edits)

pub returns-in-Repeat : goal.returns-in-Repeat
returns-in-Repeat g c =
    let build = c.self-in-Repeat.inside.build in
    rw (c.in-Repeat.is, ← c.self-in-Repeat.view_is)
    (may_edit_does (record { build = build; report = c.self-in-Repeat.inside.report.items }) c.repeat.new.self c.repeat.result (repeat_outcome c.in-Repeat.count build.tape) (frame_below build.reach (cursor_of build)) c.args.steps.now.tics c.repeat.ensures.edits)

pub returns-in-Want : goal.returns-in-Want
returns-in-Want g c = rw c.in-Want.is (nothing_does c.args.self.now c.args.steps.now.tics)

pub returns-in-Show : goal.returns-in-Show
returns-in-Show g c = rw c.in-Show.is (c.show.ensures (turns_of c.args.searcher.now g.G.Game))

pub returns-in-ShowSector : goal.returns-in-ShowSector
returns-in-ShowSector g c = rw c.in-ShowSector.is (c.show-in-ShowSector.ensures (turns_of c.args.searcher.now g.G.Game))

pub returns-in-ShowKeys : goal.returns-in-ShowKeys
returns-in-ShowKeys g c = rw c.in-ShowKeys.is (c.show-in-ShowKeys.ensures (turns_of c.args.searcher.now g.G.Game))

pub returns-in-ShowHealth : goal.returns-in-ShowHealth
returns-in-ShowHealth g c = rw c.in-ShowHealth.is (c.show-in-ShowHealth.ensures (turns_of c.args.searcher.now g.G.Game))
