use Rattle.line_specials.proofs.ByHand.{by_hand_all}
use Rattle.line_specials.proofs.table.row_of.Goals as goal
use Rattle.std.proofs.Common.{rules}
use Rattle.line_specials.specs.Table.{rows}

pub returns-clause-row : goal.returns-clause-row
unfolding rows
returns-clause-row c = search rules

pub returns-clause-by_hand : goal.returns-clause-by_hand
returns-clause-by_hand c = by_hand_all c.args.special _ (returns-clause-row c)
