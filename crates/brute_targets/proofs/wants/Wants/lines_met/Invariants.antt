use Rattle.std.proofs.Common.{◌≡◌, ℕ, ◌&&◌, nat_lt}
use Rattle.brute_targets.specs.Targets.{acts_at}
use Rattle.brute_targets.specs.Lines.{has_bit}
use Rattle.brute_targets.proofs.wants.Wants.lines_met.Given as goal

-- the bits of the targets before this one
abbrev pub invariant-loop-i : goal.invariant-loop-i
invariant-loop-i g l = (j : ℕ) → has_bit l.lines j ≡ (nat_lt j l.i && acts_at g.G.Game l.game l.world l.self j)
