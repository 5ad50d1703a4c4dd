use Rattle.std.proofs.Common.{◌≡◌, ◌<◌, ◌∙◌, arith, length}
use Rattle.build_edits.proofs.Reels.{all_at, delete_is}
use Rattle.build_edits.proofs.reel.Tape.delete.Goals as goal

pub returns : goal.returns
returns c =
    let tape = c.self.inside in
    let len : c.len-len.result ≡ length tape.tics.tics = c.len-len.ensures.len ∙ all_at tape.tics.tics tape.cursor c.args.self.now c.self.view_is in
    let some : tape.cursor < length tape.tics.tics = omega (arith, len, c.self.invariant.inside, c.if-self-len.false) in
    record { edits = rw (← c.self.view_is) (delete_is tape.tics.tics c.erase.new.self.tics tape.cursor some c.erase.ensures.erased) }
