use Rattle.std.proofs.Common.{rules, ◌++◌, ◌+◌, List, ℕ, ap, ◌∙◌, arith, length, drop}
use Rattle.lmp_codec.specs.declared.input.Tic.{Tic}
use Rattle.build_edits.specs.Parts.{Parts}
use Rattle.build_edits.proofs.Reels.{put_over_is}
use Rattle.build_edits.proofs.reel.Tape.put_over.Goals as goal

pub returns-clause-ok : goal.returns-clause-ok
returns-clause-ok c =
    let tics : List Tic = c.self.inside.tics.tics in
    let cursor : ℕ = c.self.inside.cursor in
    put_over_is tics c.insert.new.self.tics c.erase.new.self.tics c.args.tics.now cursor c.args.gone (cursor + length c.args.tics.now)
    c.self.invariant.inside (omega arith) (search rules) c.erase.ensures.erased
    ∙ ap (λ (p : Parts). record { before = p.before ++ c.args.tics.now; after = drop c.args.gone p.after }) c.self.view_is
