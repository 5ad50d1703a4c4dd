use Rattle.std.proofs.Common.{FitsSigned, ◌-ℤ◌, w32, sym, ap, ◌∙◌, ◌+◌}
use Rattle.std.proofs.lemmas.Int.{to_z-of_z}
use Rattle.block_walk.proofs.Counts.{le_from, le_not, difference_fits, span_some, span_empty}
use Rattle.block_walk.proofs.blocks.span_length.Goals as goal

pub returns-then-low-high-clause-count : goal.returns-then-low-high-clause-count
returns-then-low-high-clause-count c =
    let low = to_z-of_z w32 c.args.low c.ranges.low in
    let high = to_z-of_z w32 c.args.high c.ranges.high in
    sym (span_empty c.args.low c.args.high (le_not c.args.low c.args.high (rw (low, high) at c.if-low-high.true)))

pub returns-clause-count : goal.returns-clause-count
returns-clause-count c =
    let low = to_z-of_z w32 c.args.low c.ranges.low in
    let high = to_z-of_z w32 c.args.high c.ranges.high in
    let within = le_from c.args.low c.args.high (rw (low, high) at c.if-low-high.false) in
    let fits : FitsSigned w32 (c.args.high -ℤ c.args.low) = difference_fits c.args.low c.args.high c.requires within c.ranges.high in
    ap (λ n. n + 1) (rw (low, high, to_z-of_z w32 (c.args.high -ℤ c.args.low) fits) at c.unsigned_abs.ensures.value) ∙ sym (span_some c.args.low c.args.high within)
