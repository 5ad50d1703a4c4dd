-- Sums and differences of angles, which wrap at a whole turn.
use Rattle.std.specs.Prelude.{ℕ, ◌+◌, ◌-◌, ◌%◌}
use Rattle.fixed_angle.specs.Angle.{turn}

-- an angle, further on by another
abbrev pub turned : ℕ → ℕ → ℕ
turned angle by = (angle + by) % turn

-- an angle, back by another
abbrev pub turned_back : ℕ → ℕ → ℕ
turned_back angle by = (turn + angle - by) % turn
