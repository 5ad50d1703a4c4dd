use Rattle.std.proofs.Common.{rules}
use Rattle.brute_ranges.proofs.Product.{counts_few}
use Rattle.brute_ranges.proofs.ranges.tic_count.Goals as goal

pub overflow_mul-result-3 : goal.overflow_mul-result-3
overflow_mul-result-3 c =
    let few = counts_few c.requires.0 c.args.ranges.now c.requires.1 in
    rw (c.width.ensures.width, c.width-2.ensures.width, c.width-3.ensures.width, c.width-4.ensures.width) (search (rules, few.few))

pub returns-clause-count : goal.returns-clause-count
returns-clause-count c =
    let few = counts_few c.requires.0 c.args.ranges.now c.requires.1 in
    rw (c.width.ensures.width, c.width-2.ensures.width, c.width-3.ensures.width, c.width-4.ensures.width) few.count

pub returns-clause-some_tic : goal.returns-clause-some_tic
returns-clause-some_tic c =
    let few = counts_few c.requires.0 c.args.ranges.now c.requires.1 in
    rw (c.width.ensures.width, c.width-2.ensures.width, c.width-3.ensures.width, c.width-4.ensures.width) few.some_tic

pub returns-clause-few : goal.returns-clause-few
returns-clause-few c =
    let few = counts_few c.requires.0 c.args.ranges.now c.requires.1 in
    rw (c.width.ensures.width, c.width-2.ensures.width, c.width-3.ensures.width, c.width-4.ensures.width) few.few
