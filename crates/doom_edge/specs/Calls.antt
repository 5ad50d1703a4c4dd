-- The calls of one kind that a device in memory has had.
use Rattle.std.specs.Prelude.{ℕ, Bool, List, nat_eq, if◌then◌else◌}
use Rattle.std.specs.List.{list_any}
use Rattle.doom_edge.specs.Counts.{raised}

-- the numbers of the calls that are to fail, how many calls were made, and how many of them failed
pub record Calls : Type 0 where
  pub failing : List ℕ
  pub made : ℕ
  pub faults : ℕ

-- the next call is to fail: its number, counted from 0, is listed
abbrev pub fails : Calls → Bool
fails calls = list_any (λ number. nat_eq number calls.made) calls.failing

-- the calls and one more, which failed or didn't
abbrev pub counted : Calls → Bool → Calls
counted calls failed = record {
  failing = calls.failing;
  made = raised calls.made 1;
  faults = if failed then raised calls.faults 1 else calls.faults;
}
