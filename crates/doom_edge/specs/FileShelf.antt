-- Real files: all that is told of them is how often they failed.
use Rattle.std.specs.Prelude.{ℕ}

pub record Faults : Type 0 where
  pub takes : ℕ
  pub puts : ℕ
