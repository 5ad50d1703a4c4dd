use Rattle.std.proofs.Common.{rules, ◌≡◌, ◌++◌, ◌+◌, ◌-◌, ◌<◌, ◌≤◌, ◌∙◌, List, ℕ, arith, length, min, drop, Ok}
use Rattle.lmp_codec.specs.Demo.{most_tics}
use Rattle.lmp_codec.specs.declared.input.Tic.{Tic}
use Rattle.build_edits.specs.Edits.{repeat_outcome}
use Rattle.build_edits.proofs.Reels.{all_at, may_edit, repeat_is}
use Rattle.build_edits.proofs.reel.Tape.repeat.Goals as goal

pub returns : goal.returns
returns c =
    let tics : List Tic = c.self.inside.tics.tics in
    let place : ℕ = c.self.inside.cursor in
    let copied : List Tic = c.in_ok-copies.copies.items in
    let gone : ℕ = c.min-over.result in
    let len : c.len.result ≡ length tics = c.len.ensures.len ∙ all_at tics place c.args.self.now c.self.view_is in
    let least : gone ≡ min c.args.count (length tics - place) = omega (arith, len, c.min-over.ensures) in
    let some : 0 < place = search rules in
    let room : place + c.args.count ≤ most_tics = omega (arith, c.if-count-place.false, c.self.invariant.few, c.self.invariant.inside) in
    let is : repeat_outcome c.args.count c.args.self.now ≡ Ok (record { before = c.args.self.now.before ++ copied; after = drop gone c.args.self.now.after }) =
    rw (← c.self.view_is) (repeat_is tics copied place c.args.count gone some c.self.invariant.inside room c.in_ok-copies.ensures.copies least) in
    record { edits = may_edit c.put_over.result c.args.self.now c.put_over.new.self _ _ is (search rules) c.put_over.ensures.err c.put_over.ensures.memory }
