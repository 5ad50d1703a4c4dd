use Rattle.std.proofs.Common.{rules, ◌≡◌, take, drop, length, ap, sym, ◌∙◌, ◌+◌, arith}
use Rattle.std.proofs.lemmas.List.{take_at, length-append}
use Rattle.build_edits.specs.Kept.{joined}
use Rattle.build_edits.proofs.Joined.{first_of}
use Rattle.build_edits.proofs.blocks.first.Goals as goal

-- src/blocks.rt:139:5
pub returns-clause-first : goal.returns-clause-first
returns-clause-first c =
    let back = joined (drop (c.find_spot.result.block + 1) c.args.blocks.now.items) in
    let all = first_of c.args.blocks.now.items c.find_spot.result.block c.find_spot.result.place c.index.result.now c.find_spot.ensures.spot (search rules) in
    sym (ap (take (length c.deref.result.now)) all ∙ take_at c.index.result.now.items back (length c.deref.result.now) (search rules) ∙ search rules)

pub returns-clause-within : goal.returns-clause-within
returns-clause-within c =
    let back = joined (drop (c.find_spot.result.block + 1) c.args.blocks.now.items) in
    let all = first_of c.args.blocks.now.items c.find_spot.result.block c.find_spot.result.place c.index.result.now c.find_spot.ensures.spot (search rules) in
    let len : length (joined c.args.blocks.now.items) ≡ length c.index.result.now.items + length back = ap length all ∙ length-append c.index.result.now.items back in
    omega (arith, len, c.deref.ensures.len)
