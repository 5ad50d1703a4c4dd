use Rattle.std.proofs.Common.{rules, ◌≡◌, arith, length, take}
use Rattle.build_edits.specs.Kept.{joined}
use Rattle.build_edits.proofs.Joined.{removed}
use Rattle.build_edits.proofs.blocks.erase_some.Goals as goal

pub returns-then-len-most-clause-erased : goal.returns-then-len-most-clause-erased
returns-then-len-most-clause-erased c =
    let blocks = c.args.blocks.now.items in
    let spot = c.find_spot-found.ensures.spot in
    let start : c.args.place ≡ length (joined (take c.find_spot-found.result.block blocks)) = omega (arith, spot.sum, c.if-found-eq0.true) in
    let gone = removed blocks c.find_spot-found.result.block c.index.result.now c.args.place c.len-len.result spot.there (search rules) start (search rules) in
    search (gone, rules)
