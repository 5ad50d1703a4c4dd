use Rattle.std.proofs.Common.{◌≡◌, ℕ, ◌/◌, ◌<◌, get_or}
use Rattle.brute_ranges.specs.declared.space.Wheel.{Wheel}
use Rattle.brute_ranges.proofs.space.Space.shared.Given as goal

abbrev pub invariant-loop-i : goal.invariant-loop-i
invariant-loop-i l = (j : ℕ) (d : Wheel) → j < l.i → l.a / (get_or l.self-inside.wheels.items j d).later ≡ l.b / (get_or l.self-inside.wheels.items j d).later
