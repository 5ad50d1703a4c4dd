-- A session as it is seen. This file names no type of the crate.
use Rattle.std.specs.Prelude.{ℕ, List}
use Rattle.build_edits.specs.Built.{Built}

-- a build, and the report so far
pub record Seen (G : Type 0) : Type 0 where
  pub build : Built G
  pub report : List ℕ
