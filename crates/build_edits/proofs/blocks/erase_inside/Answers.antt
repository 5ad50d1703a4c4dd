use Rattle.std.proofs.Common.{rules, ◌≡◌, ◌+◌, ◌<◌, ℕ, ap, ◌∙◌, arith, length, take}
use Rattle.std.specs.List.{splice}
use Rattle.std.specs.Prelude.{[]}
use Rattle.build_edits.specs.Kept.{joined}
use Rattle.build_edits.proofs.Joined.{edited, read_again}
use Rattle.build_edits.proofs.blocks.erase_inside.Goals as goal

pub returns-clause-erased : goal.returns-clause-erased
returns-clause-erased c =
    let blocks = c.near-from.new.blocks.items in
    let spot = c.near-from.ensures.spot in
    let block : ℕ = c.near-from.result.block in
    let from : ℕ = c.near-from.result.place in
    let gone : ℕ = c.min-gone.result in
    let these = c.index_mut.result.now in
    let same : c.index.result.now ≡ these = read_again blocks block these c.index.result.now spot.there (search rules) (search rules) in
    let len : length these.items ≡ c.len.result = search rules in
    let inside : from < length these.items = search rules in
    let end : c.args.place + gone ≡ length (joined (take block blocks)) + (from + gone) = omega (arith, spot.sum) in
    edited blocks block these c.erase.new.tics [] from (from + gone) c.args.place (c.args.place + gone)
    spot.there (search rules) (omega arith) (omega (arith, len)) spot.sum end c.erase.ensures.erased
    ∙ ap (λ tics. splice tics c.args.place (c.args.place + gone) []) c.near-from.ensures.same
