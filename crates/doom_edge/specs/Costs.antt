-- What work costs in steps, and how a counter rises by it.
--     Cost              the least and the greatest number of steps
--     free, steps, up_to, both
--     Rises             a counter rose by no less and no more
use Rattle.std.specs.Prelude.{ℕ, ◌+◌, ◌≤◌}
use Rattle.doom_edge.specs.Counts.{raised}

-- the least and the greatest number of steps that some work takes
pub record Cost : Type 0 where
  pub least : ℕ
  pub most : ℕ

-- no step
abbrev pub free : Cost
free = record { least = 0; most = 0 }

-- this many steps, no less and no more
abbrev pub steps : ℕ → Cost
steps count = record { least = count; most = count }

-- at most this many steps
abbrev pub up_to : ℕ → Cost
up_to count = record { least = 0; most = count }

-- one work and then another
abbrev pub both : Cost → Cost → Cost
both first then = record { least = first.least + then.least; most = first.most + then.most }

-- a counter rose from `before` to `after` by what the work costs, as far as counters go
pub record Rises (cost : Cost) (before after : ℕ) : Type 0 where
  pub least : raised before cost.least ≤ after
  pub most : after ≤ raised before cost.most
