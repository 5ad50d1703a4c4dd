-- How rises of a counter join.
use Rattle.std.proofs.Common.{◌≡◌, ℕ, ◌+◌, ◌^◌, ◌<◌, ◌≤◌, arith}
use Rattle.doom_edge.specs.Counts.{raised}
use Rattle.doom_edge.specs.Costs.{Cost, free, steps, up_to, both, Rises}

-- a counter that stays
pub rises_free : (before after : ℕ) → after ≡ before → Rises free before after
unfolding raised
rises_free before after is = record { least = omega arith; most = omega arith }

-- a counter that counted so many
pub rises_steps : (before after count : ℕ) → after ≡ raised before count → Rises (steps count) before after
rises_steps before after count is = record { least = omega arith; most = omega arith }

-- a counter that rose, if at all, by no more than so many
pub rises_up_to : (before after count : ℕ) → before ≤ after → after ≤ before + count → after < 2 ^ 64 → Rises (up_to count) before after
unfolding raised
rises_up_to before after count least most fits = record { least = omega arith; most = omega arith }

-- one rise and then another
pub rises_both : (first then : Cost) (before between after : ℕ)
    → Rises first before between → Rises then between after → Rises (both first then) before after
unfolding raised
rises_both first then before between after one two = record { least = omega arith; most = omega arith }

-- a rise lies within a wider cost too
pub rises_within : (cost wider : Cost) (before after : ℕ)
    → wider.least ≤ cost.least → cost.most ≤ wider.most → Rises cost before after → Rises wider before after
unfolding raised
rises_within cost wider before after least most rises = record { least = omega arith; most = omega arith }

-- a worker's own counter, which began at 0, is added
pub rises_added : (cost : Cost) (before own after : ℕ)
    → Rises cost 0 own → after ≡ raised before own → Rises cost before after
unfolding raised
rises_added cost before own after rises is = record { least = omega arith; most = omega arith }

-- no rise is a fall
pub rises_least : (cost : Cost) (before after : ℕ) → Rises cost before after → before ≤ after
unfolding raised
rises_least cost before after rises = omega arith

-- nor more than the most that the work costs
pub rises_most : (cost : Cost) (before after : ℕ) → Rises cost before after → after ≤ before + cost.most
unfolding raised
rises_most cost before after rises = omega arith
