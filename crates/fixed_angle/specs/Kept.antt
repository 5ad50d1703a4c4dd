-- How the play tables are kept: the kinds a second time, in the order of their numbers.
use Rattle.std.specs.Prelude.{IsPermutation}
use Rattle.std.specs.List.Sorted.{IsNonDecreasingBy}
use Rattle.fixed_angle.specs.declared.tables.PlayTables.TheInside.{Inside}
use Rattle.fixed_angle.specs.Tables.{Tables, AreTables}

-- the tables that the fields hold
abbrev pub tables_in : Inside → Tables
tables_in a = record { sines = a.sines.items; arcs = a.arcs.items; draws = a.draws.items; kinds = a.kinds.items }

-- the fields hold tables, and the same kinds in the order of their numbers
pub record IsKept (a : Inside) : Type 0 where
  pub tables : AreTables (tables_in a)
  pub same : IsPermutation a.kinds.items a.by_number.items
  pub rising : IsNonDecreasingBy (λ kind. kind.number) a.by_number.items
