-- A move, bent along a line.
use Rattle.std.specs.Prelude.{ℕ, ◌==◌, ℤ, pos, nat_lt, if◌then◌else◌}
use Rattle.fixed_angle.specs.Fixed.{mul, aprox}
use Rattle.fixed_angle.specs.Tables.{Tables, sine_of, cosine_of}
use Rattle.fixed_angle.specs.Angle.{angle, half}
use Rattle.map_geometry.specs.declared.records.Line.{Line}
use Rattle.map_geometry.specs.declared.records.Slope.{Slope}
use Rattle.map_geometry.specs.declared.records.Slope.TheVariants.{Horizontal, Vertical, Positive, Negative}
use Rattle.slide_geom.specs.Angles.{turned, turned_back}

-- the angle in which a line leads, and from behind the opposite one
abbrev pub lead_of : Tables → Line → ℕ → ℕ
lead_of tables line side = if side == 1 then turned (angle tables line.dx line.dy) half else angle tables line.dx line.dy

-- an angle of more than half a turn, turned by a half
abbrev pub in_half : ℕ → ℕ
in_half angle = if nat_lt half angle then turned angle half else angle

-- how far a move turns from the angle of a line
abbrev pub bend_of : Tables → ℕ → ℤ → ℤ → ℕ
bend_of tables lead dx dy = in_half (turned_back (angle tables dx dy) lead)

-- about what is left of a move's length along a line
abbrev pub length_along : Tables → ℕ → ℤ → ℤ → ℤ
length_along tables lead dx dy = mul (aprox dx dy) (cosine_of tables (bend_of tables lead dx dy))

-- the way of a length in an angle
abbrev pub way_at : Tables → ℕ → ℤ → ℤ × ℤ
way_at tables lead length = (mul length (cosine_of tables lead), mul length (sine_of tables lead))

-- a move along a slanting line, which leads in this angle
abbrev pub slanting_along : Tables → ℕ → ℤ → ℤ → ℤ × ℤ
slanting_along tables lead dx dy = way_at tables lead (length_along tables lead dx dy)

-- a move along a line, by the line's slope
abbrev pub along_by : Slope → Tables → Line → ℕ → ℤ → ℤ → ℤ × ℤ
along_by Horizontal tables line side dx dy = (dx, pos 0)
along_by Vertical tables line side dx dy = (pos 0, dy)
along_by Positive tables line side dx dy = slanting_along tables (lead_of tables line side) dx dy
along_by Negative tables line side dx dy = slanting_along tables (lead_of tables line side) dx dy

-- The part of a move along a line, for a player on a side of it. Along a level line the part in y falls away, along an
-- upright one that in x.
unfoldable pub along_of : Tables → Line → ℕ → ℤ → ℤ → ℤ × ℤ
along_of tables line side dx dy = along_by line.slope tables line side dx dy
