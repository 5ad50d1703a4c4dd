-- the first of those that are left is the first of all
use Rattle.std.proofs.Common.{◌≡◌, ◌==◌, drop}
use Rattle.std.specs.Prelude.{find}
use Rattle.line_specials.specs.Table.{Row}
use Rattle.line_specials.proofs.table.first_with.Given as goal

abbrev pub invariant-loop-row : goal.invariant-loop-row
invariant-loop-row l = find (λ (row : Row). row.0 == l.special) (drop l.row-index l.rows) ≡ find (λ (row : Row). row.0 == l.special) l.rows
