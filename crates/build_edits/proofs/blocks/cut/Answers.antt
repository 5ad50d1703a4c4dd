use Rattle.std.proofs.Common.{rules, ◌≡◌, drop}
use Rattle.std.proofs.lemmas.List.{take_rest}
use Rattle.build_edits.proofs.Joined.{cut_in_two}
use Rattle.build_edits.proofs.blocks.cut.Goals as goal

-- src/blocks.rt:36:1
pub returns : goal.returns
returns c =
    let tail = c.in_ok-tail.tail in
    let moved : tail.items ≡ drop c.args.most c.deref.result.now = search (rules, take_rest) in
    let same = cut_in_two c.args.blocks.now.items c.insert.new.self.items c.args.block c.args.most c.index-2.result.now c.index_mut.result.now c.truncate.new.self tail
    (search rules) (search rules) (search rules) (search rules) (search rules) (search (moved, rules)) in
    record { same = same }
