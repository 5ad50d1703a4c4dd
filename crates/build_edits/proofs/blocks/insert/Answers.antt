use Rattle.std.proofs.Common.{rules, ◌≡◌, ◌+◌, ◌<◌, ℕ, ap, ◌∙◌, arith, length, take, slice_set}
use Rattle.std.specs.List.{splice}
use Rattle.build_edits.specs.Kept.{joined}
use Rattle.build_edits.proofs.Joined.{edited, same_tics}
use Rattle.build_edits.proofs.blocks.insert.Goals as goal

pub returns-clause-ok : goal.returns-clause-ok
returns-clause-ok c =
    let blocks = c.near-before.new.blocks.items in
    let spot = c.near-before.ensures.spot in
    let block : ℕ = c.near-before.result.block in
    let from : ℕ = c.near-before.result.place + 1 in
    let these = c.index_mut.result.now in
    let inside : c.near-before.result.place < length these.items = search rules in
    let start : c.args.place ≡ length (joined (take block blocks)) + from = omega (arith, spot.sum) in
    edited blocks block these c.insert.new.tics c.args.others.now from from c.args.place c.args.place
    spot.there (search rules) (omega arith) (omega arith) start start (search rules)
    ∙ ap (λ tics. splice tics c.args.place c.args.place c.args.others.now) c.near-before.ensures.same

pub returns-in_err-insert-clause-err : goal.returns-in_err-insert-clause-err
returns-in_err-insert-clause-err c =
    let blocks = c.near-before.new.blocks.items in
    let spot = c.near-before.ensures.spot in
    let same : joined (slice_set blocks c.near-before.result.block c.insert.new.tics) ≡ joined c.args.blocks.now.items =
    same_tics blocks c.near-before.result.block c.index_mut.result.now c.insert.new.tics spot.there (search rules) (search rules) ∙ c.near-before.ensures.same in
    search (same, rules)
