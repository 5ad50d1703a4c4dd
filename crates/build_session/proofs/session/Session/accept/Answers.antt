use Rattle.std.proofs.Common.{◌+◌, ◌≤◌, ◌∙◌, sym, subst, length}
use Rattle.lmp_codec.specs.Demo.{most_tics}
use Rattle.brute_ranges.specs.Space.{sequence_at}
use Rattle.build_session.specs.Seen.{Seen}
use Rattle.build_session.proofs.Doing.{accept_memory}
use Rattle.build_session.proofs.session.Session.accept.Goals as goal

pub returns-clause-memory : goal.returns-clause-memory
returns-clause-memory g c =
    let same = c.deref.ensures.value ∙ c.in-Ok.ensures.sequence in
    let room : length c.self.inside.build.tape.before + length c.deref.result.now ≤ most_tics =
    rw same (subst (λ (s : Seen _). length s.build.tape.before + length (sequence_at c.args.space.now c.args.number) ≤ most_tics) (sym c.self.view_is) c.requires.room) in
    accept_memory c.self.inside.build c.accept.new.self c.deref.result.now c.accept.result room c.accept.ensures.edits
